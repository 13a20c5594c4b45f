-- No live cell outside the square of a plane.
use Rattle.std.proofs.Common.{◌≡◌, ℕ, ◌≤◌, ◌^◌, List, ◌∙◌, inl, inr, arith}
use Rattle.std.specs.Prelude.{ℤ, replicate}
use Rattle.std.proofs.lemmas.Bool.{cases_eq}
use Rattle.std.proofs.lemmas.Int.{ints}
use Rattle.ca_plane.specs.Prelude.{IsInPlane, cells_after}
use Rattle.ca_plane.proofs.After.{after_dead}
use Rattle.ca_macro.specs.Prelude.{AreInRange}

-- where cells are in range, few generations later
pub later_outside : (next : List ℕ → ℕ) (p : ℤ → ℤ → ℕ) (n : ℕ) → next (replicate 9 0) ≡ 0 → AreInRange p → n ≤ 2 ^ 60
    → (x y : ℤ) → (IsInPlane (record { y = y; x = x }) → ⊥) → cells_after next p n x y ≡ 0
later_outside next p n quiet range few x y out =
    after_dead next p quiet n x y (λ u v within.
    elim (cases_eq (p u v) 0) [
      | inl none ↦ none
      | inr live ↦
          let here = range u v live in
          absurd (out (omega (arith, ints, few, within, here), omega (arith, ints, few, within, here), omega (arith, ints, few, within, here), omega (arith, ints, few, within, here)))
    ])

-- in a plane that shows what they show few generations later
pub end_outside : (next : List ℕ → ℕ) (p q : ℤ → ℤ → ℕ) (n : ℕ) → ((x y : ℤ) → q x y ≡ cells_after next p n x y) → next (replicate 9 0) ≡ 0 → AreInRange p → n ≤ 2 ^ 60
    → (x y : ℤ) → (IsInPlane (record { y = y; x = x }) → ⊥) → q x y ≡ 0
end_outside next p q n shows quiet range few x y out = shows x y ∙ later_outside next p n quiet range few x y out
