-- Pictures are apart exactly where no two of their live cells, one of each, are within 2 of each other.
use Rattle.std.proofs.Common.{◌≡◌, ◌≢◌, ℕ, ◌+◌, ◌<◌, ◌≤◌, List, length, get_or, sym, ap, ◌∙◌, subst, inl, inr, ◌⊎◌, arith}
use Rattle.std.specs.Prelude.{ℤ, pos, ◌+ℤ◌, ◌-ℤ◌, ◌≤ℤ◌, ◌<ℤ◌, replicate}
use Rattle.std.proofs.lemmas.Int.{ints}
use Rattle.std.proofs.lemmas.Bool.{cases_eq}
use Rattle.std.specs.List.{AllWithin}
use Rattle.std.proofs.lemmas.List.{get_or_default}
use Rattle.std.proofs.lemmas.List.Elements.{at_from_Contains, AllWithin-more}
use Rattle.ca_plane.specs.declared.{point.Bounds.Bounds, point.Point.Point}
use Rattle.ca_plane.specs.Prelude.{Picture, cell, around, shifted, IsWithin, IsLeastBox, IsSparse}
use Rattle.ca_plane.proofs.Pictures.{IsListed, IsListed-all, Contains-cell}
use Rattle.ca_plane.proofs.After.{around-same}
use Rattle.ca_plane.proofs.Shifts.{cell-shifted}
use Rattle.ca_parts.specs.Parts.{AreApart, AreFurther}
use Rattle.ca_parts.specs.inner.Apart.{AreFurtherWhenMoved, AreFarBoxes, AreFarStretches, IsNearLive}
use Rattle.ca_parts.proofs.RowOrder.{three_ways}

-- ---- windows

-- a cell of a window is live
SeesLive : (ℤ → ℤ → ℕ) → ℤ → ℤ → Type 0
SeesLive f x y = (u : ℤ) × (v : ℤ) × (f u v ≢ 0) × IsWithin 1 x y u v

-- a cell is 0, or the window sees a live one
module _ (f : ℤ → ℤ → ℕ) (x y : ℤ) where
  or_live : (u v : ℤ) → IsWithin 1 x y u v → (f u v ≡ 0 → (around f x y ≡ replicate 9 0) ⊎ SeesLive f x y) → (around f x y ≡ replicate 9 0) ⊎ SeesLive f x y
  unfolding SeesLive
  or_live u v within next = elim (cases_eq (f u v) 0) [ inl dead ↦ next dead | inr live ↦ inr (u, v, live, within) ]

  -- a window sees a live cell, or none
  dark_or_live : (around f x y ≡ replicate 9 0) ⊎ SeesLive f x y
  dark_or_live =
      or_live (x -ℤ pos 1) (y -ℤ pos 1) (omega (arith, ints), omega (arith, ints), omega (arith, ints), omega (arith, ints)) (λ a.
      or_live x (y -ℤ pos 1) (omega (arith, ints), omega (arith, ints), omega (arith, ints), omega (arith, ints)) (λ b.
      or_live (x +ℤ pos 1) (y -ℤ pos 1) (omega (arith, ints), omega (arith, ints), omega (arith, ints), omega (arith, ints)) (λ c.
      or_live (x -ℤ pos 1) y (omega (arith, ints), omega (arith, ints), omega (arith, ints), omega (arith, ints)) (λ d.
      or_live x y (omega (arith, ints), omega (arith, ints), omega (arith, ints), omega (arith, ints)) (λ e.
      or_live (x +ℤ pos 1) y (omega (arith, ints), omega (arith, ints), omega (arith, ints), omega (arith, ints)) (λ g.
      or_live (x -ℤ pos 1) (y +ℤ pos 1) (omega (arith, ints), omega (arith, ints), omega (arith, ints), omega (arith, ints)) (λ h.
      or_live x (y +ℤ pos 1) (omega (arith, ints), omega (arith, ints), omega (arith, ints), omega (arith, ints)) (λ i.
      or_live (x +ℤ pos 1) (y +ℤ pos 1) (omega (arith, ints), omega (arith, ints), omega (arith, ints), omega (arith, ints)) (λ j.
      inl (cc))))))))))

-- of three numbers in a row each one is one of them
one_of_three : (P : ℤ → Type 0) (a x : ℤ) → (a -ℤ pos 1) ≤ℤ x → x ≤ℤ (a +ℤ pos 1) → P (a -ℤ pos 1) → P a → P (a +ℤ pos 1) → P x
one_of_three P a x low high west here east =
    elim (three_ways x a) [
      | inl less ↦ let e : a -ℤ pos 1 ≡ x = omega (arith, ints) in subst P e west
      | inr o ↦ elim o [
        | inl same ↦ subst P (sym same) here
        | inr more ↦ let e : a +ℤ pos 1 ≡ x = omega (arith, ints) in subst P e east
      ]
    ]

-- a dark window shows 0 at each of its places
dark_at : (f : ℤ → ℤ → ℕ) (a b x y : ℤ) → around f a b ≡ replicate 9 0 → IsWithin 1 a b x y → f x y ≡ 0
dark_at f a b x y dark within =
    let at = λ (k : ℕ). ap (λ (l : List ℕ). get_or l k 0) dark in
    one_of_three (λ v. f x v ≡ 0) b y within.2 within.3
    (one_of_three (λ u. f u (b -ℤ pos 1) ≡ 0) a x within.0 within.1 (at 0) (at 1) (at 2))
    (one_of_three (λ u. f u b ≡ 0) a x within.0 within.1 (at 3) (at 4) (at 5))
    (one_of_three (λ u. f u (b +ℤ pos 1) ≡ 0) a x within.0 within.1 (at 6) (at 7) (at 8))

-- a number next to both of two that are within 2
middle : (x u : ℤ) → (x -ℤ pos 2) ≤ℤ u → u ≤ℤ (x +ℤ pos 2) → (a : ℤ) × ((a -ℤ pos 1) ≤ℤ x) × (x ≤ℤ (a +ℤ pos 1)) × ((a -ℤ pos 1) ≤ℤ u) × (u ≤ℤ (a +ℤ pos 1))
middle x u low high =
    elim (three_ways u x) [
      | inl less ↦ (x -ℤ pos 1, omega (arith, ints), omega (arith, ints), omega (arith, ints), omega (arith, ints))
      | inr o ↦ elim o [
        | inl same ↦ (x, omega (arith, ints), omega (arith, ints), omega (arith, ints), omega (arith, ints))
        | inr more ↦ (x +ℤ pos 1, omega (arith, ints), omega (arith, ints), omega (arith, ints), omega (arith, ints))
      ]
    ]

pub further_from_apart : (f g : ℤ → ℤ → ℕ) → AreApart f g → AreFurther 2 f g
further_from_apart f g apart = λ x y u v live live_too within.
    let (a, west, east, west_too, east_too) = middle x u within.0 within.1 in
    let (b, north, south, north_too, south_too) = middle y v within.2 within.3 in
    elim (apart a b) [
      | inl dark ↦ live (dark_at f a b x y dark (west, east, north, south))
      | inr dark ↦ live_too (dark_at g a b u v dark (west_too, east_too, north_too, south_too))
    ]

-- two places in one window are within 2
in_one_window : (x y u v a b : ℤ) → IsWithin 1 x y u v → IsWithin 1 x y a b → IsWithin 2 u v a b
in_one_window x y u v a b one two =
    (omega (arith, ints, one, two), omega (arith, ints, one, two), omega (arith, ints, one, two), omega (arith, ints, one, two))

pub apart_from_further : (f g : ℤ → ℤ → ℕ) → AreFurther 2 f g → AreApart f g
unfolding SeesLive
apart_from_further f g further = λ x y.
    elim (dark_or_live f x y) [
      | inl dark ↦ inl dark
      | inr seen ↦ inr (around-same g (λ _ _. 0) x y (λ a b within. elim (cases_eq (g a b) 0) [
        | inl dead ↦ dead
        | inr live ↦ absurd (further seen.0 seen.1 a b seen.2 live (in_one_window x y seen.0 seen.1 a b seen.3 within))
      ]))
    ]

-- ---- planes that are moved

pub further-moved : (p : Picture) (dx dy : ℤ) (q : Picture) → AreFurtherWhenMoved p dx dy q → AreFurther 2 (cell (shifted p dx dy)) (cell q)
further-moved p dx dy q far = λ x y u v live live_too within.
    far (x -ℤ dx) (y -ℤ dy) u v (λ z. live (cell-shifted p dx dy x y ∙ z)) live_too
    (omega (arith, ints, within), omega (arith, ints, within), omega (arith, ints, within), omega (arith, ints, within))

pub moved-further : (p : Picture) (dx dy : ℤ) (q : Picture) → AreFurther 2 (cell (shifted p dx dy)) (cell q) → AreFurtherWhenMoved p dx dy q
moved-further p dx dy q far = λ x y u v live live_too within.
    let back_x : (x +ℤ dx) -ℤ dx ≡ x = omega (arith, ints) in
    let back_y : (y +ℤ dy) -ℤ dy ≡ y = omega (arith, ints) in
    let shown = cell-shifted p dx dy (x +ℤ dx) (y +ℤ dy) ∙ ap (λ (u : ℤ). cell p u ((y +ℤ dy) -ℤ dy)) back_x ∙ ap (cell p x) back_y in
    far (x +ℤ dx) (y +ℤ dy) u v (λ z. live (sym shown ∙ z)) live_too within

-- a plane that isn't moved
pub still-further : (p q : Picture) (dx dy : ℤ) → dx ≡ pos 0 → dy ≡ pos 0 → AreFurtherWhenMoved p dx dy q → AreFurther 2 (cell p) (cell q)
still-further p q dx dy across down far = λ x y u v live live_too within.
    far x y u v live live_too (omega (arith, ints, within, across), omega (arith, ints, within, across), omega (arith, ints, within, down), omega (arith, ints, within, down))

pub further-still : (p q : Picture) (dx dy : ℤ) → dx ≡ pos 0 → dy ≡ pos 0 → AreFurther 2 (cell p) (cell q) → AreFurtherWhenMoved p dx dy q
further-still p q dx dy across down far = λ x y u v live live_too within.
    far x y u v live live_too (omega (arith, ints, within, across), omega (arith, ints, within, across), omega (arith, ints, within, down), omega (arith, ints, within, down))

-- the other plane moved back
pub further-back : (p q : Picture) (dx dy ex ey : ℤ) → ex +ℤ dx ≡ pos 0 → ey +ℤ dy ≡ pos 0 → AreFurtherWhenMoved q ex ey p → AreFurtherWhenMoved p dx dy q
further-back p q dx dy ex ey across down far = λ x y u v live live_too within.
    far u v x y live_too live (omega (arith, ints, within, across), omega (arith, ints, within, across), omega (arith, ints, within, down), omega (arith, ints, within, down))

pub back-further : (p q : Picture) (dx dy ex ey : ℤ) → ex +ℤ dx ≡ pos 0 → ey +ℤ dy ≡ pos 0 → AreFurtherWhenMoved p dx dy q → AreFurtherWhenMoved q ex ey p
back-further p q dx dy ex ey across down far = λ x y u v live live_too within.
    far u v x y live_too live (omega (arith, ints, within, across), omega (arith, ints, within, across), omega (arith, ints, within, down), omega (arith, ints, within, down))

-- each listed cell is far, or one isn't
pub further_from_each : (p q : Picture) (dx dy : ℤ) → (n : ℕ) → IsSparse p → length p ≤ n → AllWithin (λ e. IsNearLive q (e.0.x +ℤ dx) (e.0.y +ℤ dy) → ⊥) p 0 n → AreFurtherWhenMoved p dx dy q
further_from_each p q dx dy n sparse long far = λ x y u v live live_too within.
    let (k, low, is) = at_from_Contains p _ (Contains-cell p x y live) in
    let entry : Point × ℕ = (record { y = y; x = x }, cell p x y) in
    let far_there : IsNearLive q (x +ℤ dx) (y +ℤ dy) → ⊥ = subst (λ (e : Point × ℕ). IsNearLive q (e.0.x +ℤ dx) (e.0.y +ℤ dy) → ⊥) (is entry) (far k entry (omega arith) (omega arith)) in
    far_there (u, v, live_too, within)

-- one listed cell more is far
pub far_more : (p q : Picture) (dx dy : ℤ) (k : ℕ) (d : Point × ℕ) → k < length p → (IsNearLive q ((get_or p k d).0.x +ℤ dx) ((get_or p k d).0.y +ℤ dy) → ⊥) → AllWithin (λ e. IsNearLive q (e.0.x +ℤ dx) (e.0.y +ℤ dy) → ⊥) p 0 k → AllWithin (λ e. IsNearLive q (e.0.x +ℤ dx) (e.0.y +ℤ dy) → ⊥) p 0 (k + 1)
far_more p q dx dy k d within far so_far =
    AllWithin-more (λ (e : Point × ℕ). IsNearLive q (e.0.x +ℤ dx) (e.0.y +ℤ dy) → ⊥) p 0 k so_far
    (λ d'. subst (λ (e : Point × ℕ). IsNearLive q (e.0.x +ℤ dx) (e.0.y +ℤ dy) → ⊥) (get_or_default p k d d' within) far)

pub not_further : (p q : Picture) (dx dy : ℤ) (k : ℕ) (d : Point × ℕ) → IsSparse p → k < length p → IsNearLive q ((get_or p k d).0.x +ℤ dx) ((get_or p k d).0.y +ℤ dy) → AreFurtherWhenMoved p dx dy q → ⊥
not_further p q dx dy k d sparse within near far =
    let listed : IsListed p (get_or p k d) = IsListed-all p sparse k d within in
    let low : 1 ≤ (get_or p k d).1 = listed.low in
    far (get_or p k d).0.x (get_or p k d).0.y near.0 near.1 (λ z. let none : (get_or p k d).1 ≡ 0 = sym listed.shown ∙ z in omega arith) near.2 near.3

-- ---- boxes

pub far_from_across : (one other : Bounds) (dx dy : ℤ) → AreFarStretches one.x0 one.x1 dx other.x0 other.x1 → AreFarBoxes one dx dy other
far_from_across one other dx dy far = λ x y u v in_one in_other within.
    far x u in_one.0 in_one.1 in_other.0 in_other.1 within.0 within.1

pub far_from_down : (one other : Bounds) (dx dy : ℤ) → AreFarStretches one.y0 one.y1 dy other.y0 other.y1 → AreFarBoxes one dx dy other
far_from_down one other dx dy far = λ x y u v in_one in_other within.
    far y v in_one.2 in_one.3 in_other.2 in_other.3 within.2 within.3

pub further_from_boxes : (p q : Picture) (one other : Bounds) (dx dy : ℤ) → IsLeastBox p one → IsLeastBox q other → AreFarBoxes one dx dy other → AreFurtherWhenMoved p dx dy q
further_from_boxes p q one other dx dy box box_too far = λ x y u v live live_too within.
    far x y u v (box.all x y live) (box_too.all u v live_too) within

-- ---- rows of places near one

pub near_live : (p : Picture) (x y west east row : ℤ) → (u : ℤ) × (west ≤ℤ u) × (u ≤ℤ east) × (cell p u row ≢ 0) → west ≡ x -ℤ pos 2 → east ≡ x +ℤ pos 2 → (y -ℤ pos 2) ≤ℤ row → row ≤ℤ (y +ℤ pos 2) → IsNearLive p x y
near_live p x y west east row found from to low high =
    let (u, left, right, live) = found in
    (u, row, live, (omega (arith, ints, left, from), omega (arith, ints, right, to), low, high))

-- a row without a live cell near, and one more of them
pub row_dark : (p : Picture) (x west east row : ℤ) → ((u : ℤ) → west ≤ℤ u → u ≤ℤ east → cell p u row ≡ 0) → west ≡ x -ℤ pos 2 → east ≡ x +ℤ pos 2 → (u : ℤ) → (x -ℤ pos 2) ≤ℤ u → u ≤ℤ (x +ℤ pos 2) → cell p u row ≡ 0
row_dark p x west east row dark from to u left right = dark u (omega (arith, ints, left, from)) (omega (arith, ints, right, to))

pub one_row_more : (p : Picture) (row next u v : ℤ) → cell p u row ≡ 0 → (v <ℤ row → cell p u v ≡ 0) → v <ℤ next → next ≡ row +ℤ pos 1 → cell p u v ≡ 0
one_row_more p row next u v dark so_far high one_more =
    elim (three_ways v row) [
      | inl less ↦ so_far less
      | inr o ↦ elim o [
        | inl same ↦ subst (λ (w : ℤ). cell p u w ≡ 0) (sym same) dark
        | inr more ↦ absurd (omega (arith, ints, more, high, one_more))
      ]
    ]
