-- Runs of cells, after and before other cells of a picture.
use Rattle.std.proofs.Common.{◌≡◌, ℕ, zero, suc, ◌+◌, ◌≤◌, ◌≢◌, ℤ, pos, ◌+ℤ◌, ◌≤ℤ◌, Bool, true, false, ◌&&◌, List, [], ◌∷◌, ◌++◌, map, inl, inr, refl, sym, ap, ◌∙◌, append_assoc, zero-add, arith}
use Rattle.std.specs.Prelude.{if◌then◌else◌}
use Rattle.std.specs.Ordering.{int_eq}
use Rattle.std.specs.List.{range_with_len}
use Rattle.std.proofs.lemmas.Bool.{cases_Bool, cases_eq, and_parts}
use Rattle.std.proofs.lemmas.Bool.Decides.{Decides-int_eq}
use Rattle.std.proofs.lemmas.Int.{ints}
use Rattle.std.proofs.lemmas.List.Elements.{All-head, All-tail, All-nil, All-cons}
use Rattle.std.proofs.lemmas.List.FromFn.{map-range_with_len_more}
use Rattle.ca_plane.specs.declared.point.Point.{Point}
use Rattle.ca_plane.specs.Prelude.{Picture, IsPicture, cell, IsSame, Sets}
use Rattle.ca_rle.specs.Prelude.{run_of}

-- one cell of a run
abbrev run_cell : ℕ → Point → ℕ → Point × ℕ
run_cell state at k = (record { y = at.y; x = at.x +ℤ pos k }, state)

-- two tests with one result choose in either order
either_order : (s t : Bool) (v w : ℕ) → (if s then v else (if t then v else w)) ≡ (if t then v else (if s then v else w))
either_order true true v w = refl
either_order true false v w = refl
either_order false true v w = refl
either_order false false v w = refl

-- a cell of the same state may stand before the cells of a run or after them
run_order : (state : ℕ) (at : Point) (ks : List ℕ) (k : ℕ) (q : Picture) → IsSame (run_cell state at k ∷ (map (run_cell state at) ks ++ q)) (map (run_cell state at) ks ++ run_cell state at k ∷ q)
run_order state at [] k q x y = refl
run_order state at (j ∷ js) k q x y =
    either_order (int_eq y at.y && int_eq x (at.x +ℤ pos k)) (int_eq y at.y && int_eq x (at.x +ℤ pos j)) state (cell (map (run_cell state at) js ++ q) x y)
    ∙ ap (λ s. if int_eq y at.y && int_eq x (at.x +ℤ pos j) then state else s) (run_order state at js k q x y)

-- one more cell of a run over a picture
pub run_more : (state : ℕ) (at point : Point) (n : ℕ) (old p q : Picture) → IsSame p (run_of state at n ++ old)
    → Sets p q point state → point.y ≡ at.y → point.x ≡ at.x +ℤ pos n → IsSame q (run_of state at (n + 1) ++ old)
run_more state at point n old p q same sets row column x y =
    sets x y
    ∙ ap (λ s. if int_eq y point.y && int_eq x point.x then state else s) (same x y)
    ∙ rw (row, column) (run_order state at (range_with_len 0 n) n old x y)
    ∙ ap (λ (r : Picture). cell r x y)
    (sym (append_assoc (run_of state at n) (run_cell state at n ∷ []) old) ∙ ap (λ (r : Picture). r ++ old) (sym (map-range_with_len_more (run_cell state at) 0 n n (zero-add n))))

-- a place that the later of two pictures shows as 0 is as in the earlier
cell-before-zero : (r p : Picture) (x y : ℤ) → cell p x y ≡ 0 → cell (r ++ p) x y ≡ cell r x y
cell-before-zero [] p x y h = h
cell-before-zero (e ∷ es) p x y h = ap (λ s. if int_eq y e.0.y && int_eq x e.0.x then e.1 else s) (cell-before-zero es p x y h)

-- one that the earlier shows as 0 is as in the later, where the earlier lists no state 0
pub cell-after-zero : (p r : Picture) (x y : ℤ) → IsPicture p → cell p x y ≡ 0 → cell (p ++ r) x y ≡ cell r x y
cell-after-zero [] r x y states h = refl
cell-after-zero (e ∷ es) r x y states h =
    let low = (All-head (λ e. (1 ≤ e.1) × (e.1 ≤ 255)) e es states).0 in
    elim (cases_Bool (int_eq y e.0.y && int_eq x e.0.x)) [
      | inl t ↦ absurd (omega (arith, low, (rw t at h)))
      | inr t ↦ rw t (cell-after-zero es r x y (All-tail (λ e. (1 ≤ e.1) × (e.1 ≤ 255)) e es states) (rw t at h))
    ]

-- one that the earlier shows as another state is as in the earlier
pub cell-front : (p r : Picture) (x y : ℤ) → cell p x y ≢ 0 → cell (p ++ r) x y ≡ cell p x y
cell-front [] r x y h = absurd (h refl)
cell-front (e ∷ es) r x y h =
    elim (cases_Bool (int_eq y e.0.y && int_eq x e.0.x)) [
      | inl t ↦ rw t refl
      | inr t ↦ rw t (cell-front es r x y (rw t at h))
    ]

-- a run at places that a picture shows as 0 leaves its other places
cell-apart : (p : Picture) (state : ℕ) (at : Point) (ks : List ℕ) (x y : ℤ) → ((k : ℕ) → cell p (at.x +ℤ pos k) at.y ≡ 0) → cell p x y ≢ 0 → cell (map (run_cell state at) ks ++ p) x y ≡ cell p x y
cell-apart p state at [] x y clear h = refl
cell-apart p state at (k ∷ ks) x y clear h =
    elim (cases_Bool (int_eq y at.y && int_eq x (at.x +ℤ pos k))) [
      | inl t ↦
          let parts = and_parts (int_eq y at.y) (int_eq x (at.x +ℤ pos k)) t in
          let row = (Decides-int_eq y at.y).0 parts.0 in
          let column = (Decides-int_eq x (at.x +ℤ pos k)).0 parts.1 in
          absurd (h (rw (row, column) (clear k)))
      | inr t ↦ rw t (cell-apart p state at ks x y clear h)
    ]

-- a run at such places may stand before the picture or after it
pub run_after : (p : Picture) (state : ℕ) (at : Point) (n : ℕ) → IsPicture p → ((k : ℕ) → cell p (at.x +ℤ pos k) at.y ≡ 0) → IsSame (run_of state at n ++ p) (p ++ run_of state at n)
run_after p state at n states clear x y =
    elim (cases_eq (cell p x y) 0) [
      | inl e ↦ cell-before-zero (run_of state at n) p x y e ∙ sym (cell-after-zero p (run_of state at n) x y states e)
      | inr h ↦ cell-apart p state at (range_with_len 0 n) x y clear h ∙ sym (cell-front p (run_of state at n) x y h)
    ]

-- no cell of a run is above or below its row, or right of its end
run_clear_from : (state : ℕ) (at : Point) (a n : ℕ) (x y : ℤ) → (y ≡ at.y → (at.x +ℤ pos (a + n)) ≤ℤ x) → cell (map (run_cell state at) (range_with_len a n)) x y ≡ 0
run_clear_from state at a zero x y past = refl
run_clear_from state at a (suc n) x y past =
    elim (cases_Bool (int_eq y at.y && int_eq x (at.x +ℤ pos a))) [
      | inl t ↦
          let parts = and_parts (int_eq y at.y) (int_eq x (at.x +ℤ pos a)) t in
          let row = (Decides-int_eq y at.y).0 parts.0 in
          let column = (Decides-int_eq x (at.x +ℤ pos a)).0 parts.1 in
          let right = past row in
          absurd (omega (arith, ints))
      | inr t ↦ rw t (run_clear_from state at (a + 1) n x y (λ row. let right = past row in omega (arith, ints)))
    ]

pub run_clear : (state : ℕ) (at : Point) (n : ℕ) (x y : ℤ) → (y ≡ at.y → (at.x +ℤ pos n) ≤ℤ x) → cell (run_of state at n) x y ≡ 0
run_clear state at n x y past = run_clear_from state at 0 n x y (λ row. let right = past row in omega (arith, ints))

-- a run of a state from 1 to 255 is a picture
pub run_states : (state : ℕ) (at : Point) (n : ℕ) → 1 ≤ state → state ≤ 255 → IsPicture (run_of state at n)
run_states state at n low high = states_from (range_with_len 0 n)
  where
    states_from : (ks : List ℕ) → IsPicture (map (run_cell state at) ks)
    states_from [] = All-nil (λ e. (1 ≤ e.1) × (e.1 ≤ 255))
    states_from (k ∷ ks) = All-cons (λ e. (1 ≤ e.1) × (e.1 ≤ 255)) (run_cell state at k) (map (run_cell state at) ks) (low, high) (states_from ks)
