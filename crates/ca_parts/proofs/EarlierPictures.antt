-- What a picture that comes back was some generations earlier.
use Rattle.std.proofs.Common.{◌≡◌, ◌≢◌, ℕ, zero, suc, ◌+◌, List, [], ◌∷◌, inl, inr, refl, sym, ap, ap₂, ◌∙◌, arith}
use Rattle.std.specs.Prelude.{ℤ, pos, neg_ℤ, ◌+ℤ◌, ◌-ℤ◌, ◌*ℤ◌, replicate}
use Rattle.std.specs.List.{All}
use Rattle.std.proofs.Math.Nat.{mul-zero}
use Rattle.std.proofs.lemmas.Int.{ints}
use Rattle.std.proofs.lemmas.List.Elements.{All-nil, All-cons}
use Rattle.ca_plane.specs.Prelude.{Picture, cell, shifted, after, IsAfter, IsSame, cells_after}
use Rattle.ca_plane.proofs.After.{after_same}
use Rattle.ca_plane.proofs.Shifts.{cell-shifted}
use Rattle.ca_parts.specs.Prelude.{ComesBack, IsEarlier}
use Rattle.ca_parts.proofs.Returning.{IsBackBy, IsBackBy-from_shifted, shifted-from_IsBackBy, back_times, after_seen_so, common_time}
use Rattle.ca_parts.proofs.LaterPictures.{live_or_not, picture_after, IsAfter-picture_after}
use Rattle.ca_parts.proofs.LaterDivisions.{nothing_comes, after_stands, ComesBack-later}
use Rattle.ca_parts.proofs.Drifts.{no_drift}

-- what is back by a vector after l + 1 generations shows what the later picture is after l
pub seen_earlier : (next : List ℕ → ℕ) (e p : Picture) (l : ℕ) (u v : ℤ) → IsAfter next e 1 p → IsBackBy next (cell e) (suc l) u v
    → (x y : ℤ) → cell e x y ≡ after next p l (x +ℤ u) (y +ℤ v)
seen_earlier next e p l u v later back x y =
    let sum : suc l ≡ 1 + l = omega arith in
    sym (back x y) ∙ ap (λ k. after next e k (x +ℤ u) (y +ℤ v)) sum ∙ sym (after_stands next e p 1 later l (x +ℤ u) (y +ℤ v))

-- a plane that is itself, moved, is itself, moved k times
pub moved_often : (next : List ℕ → ℕ) (f : ℤ → ℤ → ℕ) (u v : ℤ) → ((x y : ℤ) → f (x +ℤ u) (y +ℤ v) ≡ f x y) → (k : ℕ) (x y : ℤ) → f (x +ℤ (pos k *ℤ u)) (y +ℤ (pos k *ℤ v)) ≡ f x y
moved_often next f u v same k x y =
    sym (ap (λ j. cells_after next f j (x +ℤ (pos k *ℤ u)) (y +ℤ (pos k *ℤ v))) (mul-zero k)) ∙ back_times next f 0 k u v same x y

-- two pictures that are both earlier than the same live cells are the same
same_earlier : (next : List ℕ → ℕ) (e d p q : Picture) (l : ℕ) (a b u v : ℤ) → IsAfter next e 1 p → IsAfter next d 1 q → IsSame p q → (x y : ℤ) → cell p x y ≢ 0
    → IsBackBy next (cell e) (suc l) a b → IsBackBy next (cell d) (suc l) u v → IsSame e d
same_earlier next e d p q l a b u v one two same x y live back again =
    let w = u -ℤ a in
    let z = v -ℤ b in
    let seen : (s t : ℤ) → cell e (s +ℤ w) (t +ℤ z) ≡ cell d s t = λ s t.
    let ax : (s +ℤ w) +ℤ a ≡ s +ℤ u = omega (arith, ints) in
    let ay : (t +ℤ z) +ℤ b ≡ t +ℤ v = omega (arith, ints) in
    seen_earlier next e p l a b one back (s +ℤ w) (t +ℤ z) ∙ ap₂ (after next p l) ax ay
    ∙ after_same next (cell p) (cell q) l same (s +ℤ u) (t +ℤ v) ∙ sym (seen_earlier next d q l u v two again s t) in
    let turns : (s t : ℤ) → cell p (s +ℤ w) (t +ℤ z) ≡ cell p s t = λ s t.
    sym (one (s +ℤ w) (t +ℤ z)) ∙ after_seen_so next (cell d) (cell e) w z seen 1 s t ∙ two s t ∙ sym (same s t) in
    let (none, nor) = no_drift p x y w z (λ k dead. live (sym (moved_often next (cell p) w z turns k x y) ∙ dead)) in
    λ s t.
    let ax : s ≡ s +ℤ w = omega (arith, ints, none) in
    let ay : t ≡ t +ℤ z = omega (arith, ints, nor) in
    ap₂ (cell e) ax ay ∙ seen s t

-- so a picture that comes back is earlier than one picture at most, and one at most is earlier
pub one_earlier : (next : List ℕ → ℕ) → next (replicate 9 0) ≡ 0 → (e d p q : Picture) → IsEarlier next 1 e p → IsEarlier next 1 d q → IsSame p q → IsSame e d
one_earlier next quiet e d p q one two same =
    let comes : All (ComesBack next) (e ∷ d ∷ []) = All-cons (ComesBack next) e (d ∷ []) one.back (All-cons (ComesBack next) d [] two.back (All-nil (ComesBack next))) in
    let (l, all) = common_time next (e ∷ d ∷ []) comes in
    let (a, b, back) = all 0 e (omega arith) in
    let (u, v, again) = all 1 e (omega arith) in
    elim (live_or_not p) [
      | inl (x, y, live) ↦ same_earlier next e d p q l a b u v one.later two.later same x y live back again
      | inr dead ↦ λ x y.
          seen_earlier next e p l a b one.later back x y ∙ nothing_comes next quiet (cell p) dead l (x +ℤ a) (y +ℤ b)
          ∙ sym (nothing_comes next quiet (cell q) (λ s t. sym (same s t) ∙ dead s t) l (x +ℤ u) (y +ℤ v)) ∙ sym (seen_earlier next d q l u v two.later again x y)
    ]

-- ---- there is one

-- a picture that is another one, moved, comes back as that does
ComesBack-moved : (next : List ℕ → ℕ) (p e : Picture) (u v : ℤ) → ((x y : ℤ) → cell p (x +ℤ u) (y +ℤ v) ≡ cell e x y) → ComesBack next p → ComesBack next e
ComesBack-moved next p e u v seen (n, some, a, b, there) =
    let back = IsBackBy-from_shifted next p n a b there in (
      n,
      some,
      a,
      b,
      shifted-from_IsBackBy next e n a b (λ x y.
          let ax : (x +ℤ a) +ℤ u ≡ (x +ℤ u) +ℤ a = omega (arith, ints) in
          let ay : (y +ℤ b) +ℤ v ≡ (y +ℤ v) +ℤ b = omega (arith, ints) in
          sym (after_seen_so next (cell e) (cell p) u v seen n (x +ℤ a) (y +ℤ b)) ∙ ap₂ (after next p n) ax ay ∙ back (x +ℤ u) (y +ℤ v) ∙ seen x y),
    )

-- before it is back, a picture that comes back was another one
pub some_earlier : (next : List ℕ → ℕ) → next (replicate 9 0) ≡ 0 → (p : Picture) → ComesBack next p → (e : Picture) × IsEarlier next 1 e p
some_earlier next quiet p (zero, some, u, v, there) = absurd (omega arith)
some_earlier next quiet p (suc n, some, u, v, there) =
    let before = picture_after next p n in
    let stands = IsAfter-picture_after next quiet p n in
    let e = shifted before (neg_ℤ u) (neg_ℤ v) in
    let seen : (x y : ℤ) → cell before (x +ℤ u) (y +ℤ v) ≡ cell e x y = λ x y.
    let ax : x +ℤ u ≡ x -ℤ neg_ℤ u = omega (arith, ints) in
    let ay : y +ℤ v ≡ y -ℤ neg_ℤ v = omega (arith, ints) in
    ap₂ (cell before) ax ay ∙ sym (cell-shifted before (neg_ℤ u) (neg_ℤ v) x y) in
    let sum : n + 1 ≡ suc n = omega arith in (
      e,
      record {
        back = ComesBack-moved next before e u v seen (ComesBack-later next p before n stands (suc n, some, u, v, there));
        later = λ x y.
            sym (after_seen_so next (cell e) (cell before) u v seen 1 x y) ∙ after_stands next p before n stands 1 (x +ℤ u) (y +ℤ v)
            ∙ ap (λ k. after next p k (x +ℤ u) (y +ℤ v)) sum ∙ IsBackBy-from_shifted next p (suc n) u v there x y;
      },
    )

-- ---- several generations

-- what is n + 1 generations earlier is one generation earlier than something that is n generations earlier
module _ (next : List ℕ → ℕ) (quiet : next (replicate 9 0) ≡ 0) where
  nearer : (n : ℕ) (e p : Picture) → IsEarlier next (suc n) e p → IsEarlier next n (picture_after next e 1) p
  nearer n e p is =
      let stands = IsAfter-picture_after next quiet e 1 in
      let sum : 1 + n ≡ suc n = omega arith in
      record {
        back = ComesBack-later next e (picture_after next e 1) 1 stands is.back;
        later = λ x y. after_stands next e (picture_after next e 1) 1 stands n x y ∙ ap (λ k. after next e k x y) sum ∙ is.later x y;
      }

  one_step : (e : Picture) → ComesBack next e → IsEarlier next 1 e (picture_after next e 1)
  one_step e comes = record { back = comes; later = IsAfter-picture_after next quiet e 1 }

  -- what comes back was some picture n generations earlier,
  pub some_earlier_by : (p : Picture) (n : ℕ) → ComesBack next p → (e : Picture) × IsEarlier next n e p
  some_earlier_by p zero comes = (p, record { back = comes; later = λ x y. refl })
  some_earlier_by p (suc n) comes =
      let (e, is) = some_earlier_by p n comes in
      let (d, was) = some_earlier next quiet e is.back in
      let sum : suc n ≡ 1 + n = omega arith in
      (d, record { back = was.back; later = λ x y. ap (λ k. after next d k x y) sum ∙ sym (after_stands next d e 1 was.later n x y) ∙ is.later x y })

  -- and no other one
  pub one_earlier_by : (n : ℕ) (e d p q : Picture) → IsEarlier next n e p → IsEarlier next n d q → IsSame p q → IsSame e d
  one_earlier_by zero e d p q one two same = λ x y. one.later x y ∙ same x y ∙ sym (two.later x y)
  one_earlier_by (suc n) e d p q one two same =
      one_earlier next quiet e d (picture_after next e 1) (picture_after next d 1) (one_step e one.back) (one_step d two.back)
      (one_earlier_by n (picture_after next e 1) (picture_after next d 1) p q (nearer n e p one) (nearer n d q two) same)
