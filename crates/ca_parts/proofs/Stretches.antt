-- Cells that are taken of a row, and of the rows near a point.
use Rattle.std.proofs.Common.{◌≡◌, ℕ, ◌+◌, ◌<◌, ◌≤◌, length, get_or, map, sym, ap, ◌∙◌, subst, inl, inr, arith}
use Rattle.std.specs.Prelude.{ℤ, pos, ◌+ℤ◌, ◌-ℤ◌, ◌≤ℤ◌, ◌<ℤ◌}
use Rattle.std.specs.List.{HoldsAt}
use Rattle.std.proofs.lemmas.Int.{ints}
use Rattle.std.proofs.lemmas.Bool.{cases_eq}
use Rattle.std.proofs.lemmas.List.Elements.{at_from_Contains}
use Rattle.ca_plane.specs.declared.point.Point.{Point}
use Rattle.ca_plane.specs.Prelude.{Picture, cell}
use Rattle.ca_plane.proofs.Pictures.{Contains-cell}
use Rattle.ca_parts.specs.inner.Rows.{IsRising, IsBefore, IsFirstFrom}
use Rattle.ca_parts.specs.inner.Taking.{TakesCell, Takes, TakesAll, IsInStretch, IsNear}
use Rattle.ca_parts.proofs.RowOrder.{below_or_not, not_before-east, three_ways}
use Rattle.ca_parts.proofs.Taken.{Takes-cell, Takes-trans, Takes-wider, dark_at_place, dark_kept, rising_kept}
use Rattle.ca_parts.proofs.Chains.{same_length, same_place}

-- ---- one row

-- a cell between two places that were found lies between their columns
in_stretch : (u v w e r s : ℤ) → r ≡ s → (IsBefore u v w r → ⊥) → IsBefore u v e s → (v ≡ r) × (w ≤ℤ u) × (u <ℤ e)
in_stretch u v w e r s same not (inl above) = absurd (not (inl (omega (arith, ints, above, same))))
in_stretch u v w e r s same not (inr along) =
    let level : v ≡ r = along.0 ∙ sym same in
    (level, not_before-east u v w r not level, along.1)

-- one place more
module _ (A : ℤ → ℤ → Type 0) (p t0 l t l' t' : Picture) (k : ℕ) (d : Point × ℕ) (rising : IsRising p) (so_far : Takes A p t0 l t) (within : k < length p) where
  within_left : k < length l
  within_left = omega (arith, same_length p l so_far.places)

  place_more : A (get_or p k d).0.x (get_or p k d).0.y → TakesCell k l t l' t' (get_or l k d) → Takes A p t0 l' t'
  place_more area takes =
      let area_left : A (get_or l k d).0.x (get_or l k d).0.y = subst (λ (q : Point). A q.x q.y) (sym (same_place p l k d so_far.places within_left)) area in
      Takes-trans A p t0 l t l' t' so_far (Takes-cell A k l t l' t' d (rising_kept A p t0 l t so_far rising) within_left area_left takes)

  pub dark_more : (i : ℕ) → ((m : ℕ) (d : Point × ℕ) → i ≤ m → m < k → (get_or l m d).1 ≡ 0) → HoldsAt (TakesCell k l t l' t') l k → (m : ℕ) (d : Point × ℕ) → i ≤ m → m < k + 1 → (get_or l' m d).1 ≡ 0
  dark_more i dark takes m d low high =
      elim (below_or_not m k) [
        | inl early ↦ dark_at_place k m l t l' t' d within_left (takes d) (inr (dark m d low early))
        | inr late ↦ dark_at_place k m l t l' t' d within_left (takes d) (inl (omega arith))
      ]

  pub stretch_more : (w e r s : ℤ) (i j : ℕ) → IsFirstFrom p w r i → IsFirstFrom p e s j → r ≡ s → ((x : ℤ) → w ≤ℤ x → x <ℤ e → A x r) → i ≤ k → k < j → HoldsAt (TakesCell k l t l' t') l k → Takes A p t0 l' t'
  stretch_more w e r s i j first end same area low high takes =
      let (level, from, to) = in_stretch (get_or p k d).0.x (get_or p k d).0.y w e r s same (first.from k d low within) (end.before k d high) in
      place_more (subst (λ (v : ℤ). A (get_or p k d).0.x v) (sym level) (area (get_or p k d).0.x from to)) (takes d)

-- where the listed cells between two places that were found are 0, the row is 0 between their columns
pub stretch_dark : (p l : Picture) (w e r s : ℤ) (i j : ℕ) → map (λ (e : Point × ℕ). e.0) l ≡ map (λ (e : Point × ℕ). e.0) p → IsFirstFrom p w r i → IsFirstFrom p e s j → ((m : ℕ) (d : Point × ℕ) → i ≤ m → m < j → (get_or l m d).1 ≡ 0) → (x y : ℤ) → w ≤ℤ x → x <ℤ e → y ≡ r → y ≡ s → cell l x y ≡ 0
stretch_dark p l w e r s i j places first end dark x y west east level level_too =
    elim (cases_eq (cell l x y) 0) [
      | inl none ↦ none
      | inr live ↦
          let entry : Point × ℕ = (record { y = y; x = x }, cell l x y) in
          let (k, low, is) = at_from_Contains l _ (Contains-cell l x y live) in
          let within : k < length p = omega (arith, low, same_length p l places) in
          let point_is : (get_or p k entry).0 ≡ record { y = y; x = x } = sym (same_place p l k entry places low) ∙ ap (λ (e : Point × ℕ). e.0) (is entry) in
          let at_x : (get_or p k entry).0.x ≡ x = ap (λ (q : Point). q.x) point_is in
          let at_y : (get_or p k entry).0.y ≡ y = ap (λ (q : Point). q.y) point_is in
          elim (below_or_not k i) [
            | inl early ↦ let before = first.before k entry early in absurd (omega (arith, ints, before, at_x, at_y, west, level))
            | inr late ↦ elim (below_or_not k j) [
              | inl there ↦ absurd (live (sym (ap (λ (e : Point × ℕ). e.1) (is entry)) ∙ dark k entry late there))
              | inr beyond ↦ absurd (end.from k entry beyond within (inr (at_y ∙ level_too, omega (arith, ints, at_x, east))))
            ]
          ]
    ]

-- ---- rows near a point

module _ (reach : ℕ) (at : Point) (l0 t0 l t l' t' : Picture) (west east line row : ℤ) (all : TakesAll (IsInStretch west east line) l t l' t') (from : west ≡ at.x -ℤ pos reach) (to : east ≡ at.x +ℤ pos reach) (same : line ≡ row) where
  pub row_more : Takes (IsNear reach at) l0 t0 l t → (at.y -ℤ pos reach) ≤ℤ row → row ≤ℤ (at.y +ℤ pos reach) → Takes (IsNear reach at) l0 t0 l' t'
  row_more so_far low high =
      Takes-trans (IsNear reach at) l0 t0 l t l' t' so_far
      (Takes-wider (IsInStretch west east line) (IsNear reach at) l t l' t' all.takes
      (λ x y area _. (omega (arith, ints, area, from), omega (arith, ints, area, to), omega (arith, ints, area, same, low), omega (arith, ints, area, same, high))))

  pub near_dark_more : (next : ℤ) → next ≡ row +ℤ pos 1 → ((x y : ℤ) → IsNear reach at x y → y <ℤ row → cell l x y ≡ 0) → (x y : ℤ) → IsNear reach at x y → y <ℤ next → cell l' x y ≡ 0
  near_dark_more next one_more dark x y near high =
      elim (three_ways y row) [
        | inl less ↦ dark_kept (IsInStretch west east line) l t l' t' all.takes x y (dark x y near less)
        | inr o ↦ elim o [
          | inl level ↦ all.none x y (omega (arith, ints, near, from), omega (arith, ints, near, to), level ∙ sym same)
          | inr more ↦ absurd (omega (arith, ints, more, high, one_more))
        ]
      ]
