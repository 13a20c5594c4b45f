-- Two planes agree on all places within a distance of one place, or differ at one of these.
use Rattle.std.proofs.Common.{◌≡◌, ◌≢◌, ℕ, zero, suc, ◌+◌, ◌⊎◌, inl, inr, sym, subst, arith}
use Rattle.std.specs.Prelude.{ℤ, pos, ◌+ℤ◌, ◌-ℤ◌, ◌≤ℤ◌, ◌<ℤ◌}
use Rattle.std.specs.Ordering.{int_eq}
use Rattle.std.proofs.lemmas.Bool.{cases_eq, cases_Bool}
use Rattle.std.proofs.lemmas.Bool.Decides.{Decides-int_eq, not_from_Decides}
use Rattle.std.proofs.lemmas.Int.{ints}
use Rattle.ca_plane.specs.Prelude.{IsWithin}

-- two numbers are one, or they aren't
cases_int : (a b : ℤ) → (a ≡ b) ⊎ (a ≡ b → ⊥)
cases_int a b =
    elim (cases_Bool (int_eq a b)) [
      | inl e ↦ inl ((Decides-int_eq a b).0 e)
      | inr e ↦ inr (not_from_Decides (int_eq a b) (Decides-int_eq a b) e)
    ]

-- in a row, from a onwards
search_row : (f g : ℤ → ℕ) (a : ℤ) (m : ℕ) → ((u : ℤ) → a ≤ℤ u → u <ℤ (a +ℤ pos m) → f u ≡ g u) ⊎ ((u : ℤ) × (f u ≢ g u))
search_row f g a zero = inl (λ u low high. absurd (omega (arith, ints, low, high)))
search_row f g a (suc m) =
    elim (search_row f g a m) [
      | inr found ↦ inr found
      | inl same ↦
          elim (cases_eq (f (a +ℤ pos m)) (g (a +ℤ pos m))) [
            | inr other ↦ inr (a +ℤ pos m, other)
            | inl e ↦ inl (λ u low high.
                elim (cases_int u (a +ℤ pos m)) [
                  | inl here ↦ subst (λ v. f v ≡ g v) (sym here) e
                  | inr elsewhere ↦ same u low (omega (arith, ints, low, high, elsewhere))
                ])
          ]
    ]

-- in m rows of one length, from (a, b) on
search_rows : (f g : ℤ → ℤ → ℕ) (a b : ℤ) (wide m : ℕ)
    → ((u v : ℤ) → a ≤ℤ u → u <ℤ (a +ℤ pos wide) → b ≤ℤ v → v <ℤ (b +ℤ pos m) → f u v ≡ g u v) ⊎ ((u : ℤ) × (v : ℤ) × (f u v ≢ g u v))
search_rows f g a b wide zero = inl (λ u v _ _ low high. absurd (omega (arith, ints, low, high)))
search_rows f g a b wide (suc m) =
    elim (search_rows f g a b wide m) [
      | inr found ↦ inr found
      | inl same ↦
          elim (search_row (λ u. f u (b +ℤ pos m)) (λ u. g u (b +ℤ pos m)) a wide) [
            | inr found ↦ inr (found.0, b +ℤ pos m, found.1)
            | inl row ↦ inl (λ u v left right low high.
                elim (cases_int v (b +ℤ pos m)) [
                  | inl here ↦ subst (λ w. f u w ≡ g u w) (sym here) (row u left right)
                  | inr elsewhere ↦ same u v left right low (omega (arith, ints, low, high, elsewhere))
                ])
          ]
    ]

-- within n of (x, y)
pub search_within : (f g : ℤ → ℤ → ℕ) (n : ℕ) (x y : ℤ) → ((u v : ℤ) → IsWithin n x y u v → f u v ≡ g u v) ⊎ ((u : ℤ) × (v : ℤ) × (f u v ≢ g u v))
search_within f g n x y =
    elim (search_rows f g (x -ℤ pos n) (y -ℤ pos n) (suc (n + n)) (suc (n + n))) [
      | inl same ↦ inl (λ u v within. same u v (omega (arith, ints, within)) (omega (arith, ints, within)) (omega (arith, ints, within)) (omega (arith, ints, within)))
      | inr found ↦ inr found
    ]
