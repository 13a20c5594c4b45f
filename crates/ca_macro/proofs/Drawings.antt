-- Pictures that are drawn in rows, or put together of four, cell by cell.
use Rattle.std.proofs.Common.{◌≡◌, ℕ, zero, suc, ◌+◌, ◌-◌, ◌*◌, ◌/◌, ◌%◌, ◌<◌, ◌≤◌, ◌⊎◌, inl, inr, ◌==◌, ◌&&◌, true, false, Bool, ℤ, pos, negsuc, ◌+ℤ◌, ◌-ℤ◌, ◌<ℤ◌, List, [], ◌∷◌, ◌++◌, map, length, get_or, if◌then◌else◌, refl, sym, ap, ◌∙◌, arith}
use Rattle.std.specs.List.{AllByRecursion}
use Rattle.std.specs.Ordering.{int_eq}
use Rattle.std.specs.Int.{bit_at}
use Rattle.std.proofs.lemmas.Bool.{cases_Bool}
use Rattle.std.proofs.lemmas.Bool.Decides.{nat_tests}
use Rattle.std.proofs.lemmas.Int.{ints}
use Rattle.std.proofs.lemmas.List.Elements.{All-head, All-tail, All-nil, All-cons, All-append, All-map}
use Rattle.std.proofs.lemmas.Nat.Bits.{bit_at-zero, bit_at_lowest, bit_at-suc}
use Rattle.ca_plane.specs.declared.point.Point.{Point}
use Rattle.ca_plane.specs.Prelude.{Picture, IsPicture, cell, shifted, from_corner, row_cells}
use Rattle.ca_plane.proofs.Pictures.{place-from_true, cell-first}
use Rattle.ca_plane.proofs.Shifts.{cell-shifted}
use Rattle.ca_quad.specs.Prelude.{one_cell, joined_cells}
use Rattle.ca_plane.proofs.Numbers.{below_or_not}
use Rattle.ca_quad.specs.inner.Measure.{EndsWithin}
use Rattle.ca_quad.proofs.Cells.{in_nw, in_ne, in_sw, in_se, dot_ends, together_ends}
use Rattle.ca_quad.proofs.Edges.{off_x, off_y}
use Rattle.ca_macro.specs.Prelude.{row_from, rows_from, leaf_state, joined_picture}
use Rattle.ca_macro.specs.inner.Leaves.{row_bits, leaf_bits}

-- ---- one picture after another

-- a place that the earlier picture shows as 0 is as in the later
cell-after : (p q : Picture) (x y : ℤ) → IsPicture p → cell p x y ≡ 0 → cell (p ++ q) x y ≡ cell q x y
cell-after [] q x y states h = refl
cell-after (e ∷ es) q x y states h =
    let low = (All-head (λ e. (1 ≤ e.1) × (e.1 ≤ 255)) e es states).0 in
    elim (cases_Bool (int_eq y e.0.y && int_eq x e.0.x)) [
      | inl t ↦ absurd (omega (arith, low, (rw t at h)))
      | inr t ↦ rw t (cell-after es q x y (All-tail (λ e. (1 ≤ e.1) × (e.1 ≤ 255)) e es states) (rw t at h))
    ]

-- and one that the later shows as 0 as in the earlier
cell-before : (p q : Picture) (x y : ℤ) → cell q x y ≡ 0 → cell (p ++ q) x y ≡ cell p x y
cell-before [] q x y h = h
cell-before (e ∷ es) q x y h = ap (λ s. if int_eq y e.0.y && int_eq x e.0.x then e.1 else s) (cell-before es q x y h)

-- where one of them shows 0, they show the sum
cell-plus : (p q : Picture) (x y : ℤ) → IsPicture p → (cell p x y ≡ 0) ⊎ (cell q x y ≡ 0) → cell (p ++ q) x y ≡ cell p x y + cell q x y
cell-plus p q x y states (inl h) = let e = cell-after p q x y states h in omega arith
cell-plus p q x y states (inr h) = let e = cell-before p q x y h in omega arith

-- a point that lies elsewhere may be left out
cell-elsewhere : (e : Point × ℕ) (es : Picture) (x y : ℤ) → (e.0.x ≡ x → e.0.y ≡ y → ⊥) → cell (e ∷ es) x y ≡ cell es x y
cell-elsewhere e es x y other =
    elim (cases_Bool (int_eq y e.0.y && int_eq x e.0.x)) [
      | inl t ↦ let both = place-from_true x y e.0 t in absurd (other (sym both.1) (sym both.0))
      | inr t ↦ rw t refl
    ]

-- ---- rows

row_left : (ss : List ℕ) (u v x y : ℤ) → x <ℤ u → cell (row_from u v ss) x y ≡ 0
row_left [] u v x y h = refl
row_left (s ∷ ss) u v x y h =
    let later = row_left ss (u +ℤ pos 1) v x y (omega (arith, ints)) in
    elim (cases_Bool (s == 0)) [
      | inl t ↦ rw t later
      | inr t ↦ rw t (cell-elsewhere (record { y = v; x = u }, s) (row_from (u +ℤ pos 1) v ss) x y (λ e f. omega (arith, ints)) ∙ later)
    ]

row_other : (ss : List ℕ) (u v x y : ℤ) → (y ≡ v → ⊥) → cell (row_from u v ss) x y ≡ 0
row_other [] u v x y h = refl
row_other (s ∷ ss) u v x y h =
    let later = row_other ss (u +ℤ pos 1) v x y h in
    elim (cases_Bool (s == 0)) [
      | inl t ↦ rw t later
      | inr t ↦ rw t (cell-elsewhere (record { y = v; x = u }, s) (row_from (u +ℤ pos 1) v ss) x y (λ e f. h (sym f)) ∙ later)
    ]

is_zero : (s : ℕ) → (s == 0) ≡ true → s ≡ 0
is_zero s t = grind (arith, nat_tests)

row_here : (ss : List ℕ) (u v x : ℤ) (i : ℕ) → x ≡ u +ℤ pos i → cell (row_from u v ss) x v ≡ get_or ss i 0
row_here [] u v x i e = refl
row_here (s ∷ ss) u v x zero e =
    elim (cases_Bool (s == 0)) [
      | inl t ↦ rw t (row_left ss (u +ℤ pos 1) v x v (omega (arith, ints)) ∙ sym (is_zero s t))
      | inr t ↦
          let here : x ≡ u = omega (arith, ints) in
          rw (t, here) (cell-first (record { y = v; x = u }, s) (row_from (u +ℤ pos 1) v ss))
    ]
row_here (s ∷ ss) u v x (suc i) e =
    let later = row_here ss (u +ℤ pos 1) v x i (omega (arith, ints)) in
    elim (cases_Bool (s == 0)) [
      | inl t ↦ rw t later
      | inr t ↦ rw t (cell-elsewhere (record { y = v; x = u }, s) (row_from (u +ℤ pos 1) v ss) x v (λ f g. omega (arith, ints)) ∙ later)
    ]

-- states that a picture may have
abbrev pub AreStates : List ℕ → Type 0
AreStates row = AllByRecursion (λ s. s ≤ 255) row

not_zero : (s : ℕ) → (s == 0) ≡ false → 1 ≤ s
not_zero s t = grind (arith, nat_tests)

row_states : (ss : List ℕ) (u v : ℤ) → AreStates ss → IsPicture (row_from u v ss)
row_states [] u v h = All-nil (λ e. (1 ≤ e.1) × (e.1 ≤ 255))
row_states (s ∷ ss) u v h =
    let later = row_states ss (u +ℤ pos 1) v h.1 in
    elim (cases_Bool (s == 0)) [
      | inl t ↦ rw t later
      | inr t ↦ rw t (All-cons (λ e. (1 ≤ e.1) × (e.1 ≤ 255)) (record { y = v; x = u }, s) (row_from (u +ℤ pos 1) v ss) (not_zero s t, h.0) later)
    ]

pub rows_states : (rows : List (List ℕ)) (v : ℤ) → AllByRecursion AreStates rows → IsPicture (rows_from v rows)
rows_states [] v h = All-nil (λ e. (1 ≤ e.1) × (e.1 ≤ 255))
rows_states (r ∷ rs) v h =
    All-append (λ e. (1 ≤ e.1) × (e.1 ≤ 255)) (row_from (pos 0) v r) (rows_from (v +ℤ pos 1) rs) (row_states r (pos 0) v h.0) (rows_states rs (v +ℤ pos 1) h.1)

rows_above : (rows : List (List ℕ)) (v x y : ℤ) → AllByRecursion AreStates rows → y <ℤ v → cell (rows_from v rows) x y ≡ 0
rows_above [] v x y h e = refl
rows_above (r ∷ rs) v x y h e =
    let first = row_other r (pos 0) v x y (λ f. omega (arith, ints)) in
    cell-after (row_from (pos 0) v r) (rows_from (v +ℤ pos 1) rs) x y (row_states r (pos 0) v h.0) first
    ∙ rows_above rs (v +ℤ pos 1) x y h.1 (omega (arith, ints))

rows_left : (rows : List (List ℕ)) (v x y : ℤ) → AllByRecursion AreStates rows → x <ℤ pos 0 → cell (rows_from v rows) x y ≡ 0
rows_left [] v x y h e = refl
rows_left (r ∷ rs) v x y h e =
    cell-after (row_from (pos 0) v r) (rows_from (v +ℤ pos 1) rs) x y (row_states r (pos 0) v h.0) (row_left r (pos 0) v x y e)
    ∙ rows_left rs (v +ℤ pos 1) x y h.1 e

rows_here : (rows : List (List ℕ)) (v y : ℤ) (i j : ℕ) → AllByRecursion AreStates rows → y ≡ v +ℤ pos j → cell (rows_from v rows) (pos i) y ≡ get_or (get_or rows j []) i 0
rows_here [] v y i j h e = refl
rows_here (r ∷ rs) v y i zero h e =
    let here : y ≡ v = omega (arith, ints) in
    cell-before (row_from (pos 0) v r) (rows_from (v +ℤ pos 1) rs) (pos i) y (rows_above rs (v +ℤ pos 1) (pos i) y h.1 (omega (arith, ints)))
    ∙ rw here (row_here r (pos 0) v (pos i) i (omega (arith, ints)))
rows_here (r ∷ rs) v y i (suc j) h e =
    cell-after (row_from (pos 0) v r) (rows_from (v +ℤ pos 1) rs) (pos i) y (row_states r (pos 0) v h.0) (row_other r (pos 0) v (pos i) y (λ f. omega (arith, ints)))
    ∙ rows_here rs (v +ℤ pos 1) y i j h.1 (omega (arith, ints))

-- the state that rows have at a place
abbrev pub in_rows : List (List ℕ) → ℕ → ℕ → ℕ
in_rows rows x y = get_or (get_or rows y []) x 0

pub rows_cell : (rows : List (List ℕ)) → AllByRecursion AreStates rows → (x y : ℤ) → cell (rows_from (pos 0) rows) x y ≡ from_corner (in_rows rows) x y
rows_cell rows h (pos x) (pos y) = rows_here rows (pos 0) (pos y) x y h (omega (arith, ints))
rows_cell rows h (pos x) (negsuc y) = rows_above rows (pos 0) (pos x) (negsuc y) h (omega (arith, ints))
rows_cell rows h (negsuc x) (pos y) = rows_left rows (pos 0) (negsuc x) (pos y) h (omega (arith, ints))
rows_cell rows h (negsuc x) (negsuc y) = rows_left rows (pos 0) (negsuc x) (negsuc y) h (omega (arith, ints))

pub from_corner_same : (p q : ℕ → ℕ → ℕ) → ((x y : ℕ) → p x y ≡ q x y) → (u v : ℤ) → from_corner p u v ≡ from_corner q u v
from_corner_same p q same (pos x) (pos y) = same x y
from_corner_same p q same (pos x) (negsuc y) = refl
from_corner_same p q same (negsuc x) (pos y) = refl
from_corner_same p q same (negsuc x) (negsuc y) = refl

-- ---- four cells

pub four_cells : (nw ne sw se x y : ℕ) → in_rows ((nw ∷ ne ∷ []) ∷ (sw ∷ se ∷ []) ∷ []) x y ≡ joined_cells 1 (one_cell nw) (one_cell ne) (one_cell sw) (one_cell se) x y
four_cells nw ne sw se zero zero = refl
four_cells nw ne sw se (suc zero) zero = refl
four_cells nw ne sw se zero (suc zero) = refl
four_cells nw ne sw se (suc zero) (suc zero) = refl
four_cells nw ne sw se (suc (suc x)) zero = sym (together_ends 1 (one_cell nw) (one_cell ne) (one_cell sw) (one_cell se) (dot_ends nw 1 (omega arith)) (dot_ends ne 1 (omega arith)) (dot_ends sw 1 (omega arith)) (dot_ends se 1 (omega arith)) (suc (suc x)) zero (inl (omega arith)))
four_cells nw ne sw se (suc (suc x)) (suc zero) = sym (together_ends 1 (one_cell nw) (one_cell ne) (one_cell sw) (one_cell se) (dot_ends nw 1 (omega arith)) (dot_ends ne 1 (omega arith)) (dot_ends sw 1 (omega arith)) (dot_ends se 1 (omega arith)) (suc (suc x)) (suc zero) (inl (omega arith)))
four_cells nw ne sw se x (suc (suc y)) = sym (together_ends 1 (one_cell nw) (one_cell ne) (one_cell sw) (one_cell se) (dot_ends nw 1 (omega arith)) (dot_ends ne 1 (omega arith)) (dot_ends sw 1 (omega arith)) (dot_ends se 1 (omega arith)) x (suc (suc y)) (inr (omega arith)))

-- ---- the bits of a leaf

low_bit : (live : Bool) (n : ℕ) → ((if live then 1 else 0) + 2 * n) % 2 ≡ leaf_state live
low_bit true n = omega arith
low_bit false n = omega arith

high_bits : (live : Bool) (n : ℕ) → ((if live then 1 else 0) + 2 * n) / 2 ≡ n
high_bits true n = omega arith
high_bits false n = omega arith

row_bit : (row : List Bool) (i : ℕ) → bit_at (row_bits row) i ≡ get_or (map leaf_state row) i 0
row_bit [] i = bit_at-zero i
row_bit (live ∷ more) zero = bit_at_lowest (row_bits (live ∷ more)) ∙ low_bit live (row_bits more)
row_bit (live ∷ more) (suc i) = bit_at-suc (row_bits (live ∷ more)) i ∙ ap (λ n. bit_at n i) (high_bits live (row_bits more)) ∙ row_bit more i

pub leaf_cell : (height : ℕ) (rows : List (List Bool)) (x y : ℕ) → length rows ≤ height → row_cells (leaf_bits height rows) x y ≡ in_rows (map (map leaf_state) rows) x y
leaf_cell zero [] x y h = bit_at-zero x
leaf_cell zero (r ∷ rs) x y h = absurd (omega arith)
leaf_cell (suc height) [] x zero h = bit_at-zero x
leaf_cell (suc height) [] x (suc y) h = leaf_cell height [] x y (omega arith)
leaf_cell (suc height) (r ∷ rs) x zero h = row_bit r x
leaf_cell (suc height) (r ∷ rs) x (suc y) h = leaf_cell height rs x y (omega arith)

row_of_leaf : (row : List Bool) → AreStates (map leaf_state row)
row_of_leaf [] = tt
row_of_leaf (true ∷ row) = (omega arith, row_of_leaf row)
row_of_leaf (false ∷ row) = (omega arith, row_of_leaf row)

pub leaf_states : (rows : List (List Bool)) → AllByRecursion AreStates (map (map leaf_state) rows)
leaf_states [] = tt
leaf_states (r ∷ rs) = (row_of_leaf r, leaf_states rs)

-- ---- four pictures put together

at_corner : (f : ℕ → ℕ → ℕ) (u v : ℤ) (m n : ℕ) → u ≡ pos m → v ≡ pos n → from_corner f u v ≡ f m n
at_corner f u v m n e g = rw (e, g) refl

pub shifted_states : (p : Picture) (dx dy : ℤ) → IsPicture p → IsPicture (shifted p dx dy)
shifted_states p dx dy h = All-map (λ (e : Point × ℕ). (1 ≤ e.1) × (e.1 ≤ 255)) (λ (e : Point × ℕ). (record { y = e.0.y +ℤ dy; x = e.0.x +ℤ dx }, e.1)) p h

module _ (half : ℕ) (p q r s : Picture) (hp : IsPicture p) (hq : IsPicture q) (hr : IsPicture r) (hs : IsPicture s) where
  pub joined_states : IsPicture (joined_picture half p q r s)
  joined_states =
      All-append (λ e. (1 ≤ e.1) × (e.1 ≤ 255)) p (shifted q (pos half) (pos 0) ++ (shifted r (pos 0) (pos half) ++ shifted s (pos half) (pos half))) hp
      (All-append (λ e. (1 ≤ e.1) × (e.1 ≤ 255)) (shifted q (pos half) (pos 0)) (shifted r (pos 0) (pos half) ++ shifted s (pos half) (pos half)) (shifted_states q (pos half) (pos 0) hq)
      (All-append (λ e. (1 ≤ e.1) × (e.1 ≤ 255)) (shifted r (pos 0) (pos half)) (shifted s (pos half) (pos half)) (shifted_states r (pos 0) (pos half) hr) (shifted_states s (pos half) (pos half) hs)))

  -- where at most one of the four shows a live cell, they show the sum
  record AtMostOne (x y : ℤ) : Type 0 where
    last : (cell (shifted r (pos 0) (pos half)) x y ≡ 0) ⊎ (cell (shifted s (pos half) (pos half)) x y ≡ 0)
    third : (cell (shifted q (pos half) (pos 0)) x y ≡ 0) ⊎ (cell (shifted r (pos 0) (pos half)) x y + cell (shifted s (pos half) (pos half)) x y ≡ 0)
    first : (cell p x y ≡ 0) ⊎ (cell (shifted q (pos half) (pos 0)) x y + (cell (shifted r (pos 0) (pos half)) x y + cell (shifted s (pos half) (pos half)) x y) ≡ 0)

  joined_sum : (x y : ℤ) → AtMostOne x y → cell (joined_picture half p q r s) x y
      ≡ cell p x y + (cell (shifted q (pos half) (pos 0)) x y + (cell (shifted r (pos 0) (pos half)) x y + cell (shifted s (pos half) (pos half)) x y))
  joined_sum x y h =
      let q1 : Picture = shifted q (pos half) (pos 0) in
      let r1 : Picture = shifted r (pos 0) (pos half) in
      let s1 : Picture = shifted s (pos half) (pos half) in
      let c = cell-plus r1 s1 x y (shifted_states r (pos 0) (pos half) hr) h.last in
      let b = cell-plus q1 (r1 ++ s1) x y (shifted_states q (pos half) (pos 0) hq) (elim h.third [ inl e ↦ inl e | inr e ↦ inr (c ∙ e) ]) in
      let a = cell-plus p (q1 ++ (r1 ++ s1)) x y hp (elim h.first [ inl e ↦ inl e | inr e ↦ inr (b ∙ (ap (λ n. cell q1 x y + n) c ∙ e)) ]) in
      a ∙ ap (λ n. cell p x y + n) (b ∙ ap (λ n. cell q1 x y + n) c)

  module _ (a b c d : ℕ → ℕ → ℕ) (ea : EndsWithin half a) (eb : EndsWithin half b) (ec : EndsWithin half c) (ed : EndsWithin half d)
      (pa : (x y : ℤ) → cell p x y ≡ from_corner a x y) (qb : (x y : ℤ) → cell q x y ≡ from_corner b x y)
      (rc : (x y : ℤ) → cell r x y ≡ from_corner c x y) (sd : (x y : ℤ) → cell s x y ≡ from_corner d x y)
    where
      q_at : (x y : ℤ) → cell (shifted q (pos half) (pos 0)) x y ≡ from_corner b (x -ℤ pos half) (y -ℤ pos 0)
      q_at x y = cell-shifted q (pos half) (pos 0) x y ∙ qb (x -ℤ pos half) (y -ℤ pos 0)

      r_at : (x y : ℤ) → cell (shifted r (pos 0) (pos half)) x y ≡ from_corner c (x -ℤ pos 0) (y -ℤ pos half)
      r_at x y = cell-shifted r (pos 0) (pos half) x y ∙ rc (x -ℤ pos 0) (y -ℤ pos half)

      s_at : (x y : ℤ) → cell (shifted s (pos half) (pos half)) x y ≡ from_corner d (x -ℤ pos half) (y -ℤ pos half)
      s_at x y = cell-shifted s (pos half) (pos half) x y ∙ sd (x -ℤ pos half) (y -ℤ pos half)

      -- where all four are 0
      none : (x y : ℤ) → from_corner a x y ≡ 0 → from_corner b (x -ℤ pos half) (y -ℤ pos 0) ≡ 0 → from_corner c (x -ℤ pos 0) (y -ℤ pos half) ≡ 0
          → from_corner d (x -ℤ pos half) (y -ℤ pos half) ≡ 0 → cell (joined_picture half p q r s) x y ≡ 0
      none x y na nb nc nd =
          let e = pa x y ∙ na in
          let f = q_at x y ∙ nb in
          let g = r_at x y ∙ nc in
          let i = s_at x y ∙ nd in
          joined_sum x y (record { last = inl g; third = inl f; first = inl e }) ∙ omega arith

      -- to the left they are
      none_left : (x y : ℤ) → x <ℤ pos 0 → cell (joined_picture half p q r s) x y ≡ 0
      none_left x y h = none x y (off_x a half ea x y (inl h)) (off_x b half eb _ _ (inl (omega (arith, ints)))) (off_x c half ec _ _ (inl (omega (arith, ints)))) (off_x d half ed _ _ (inl (omega (arith, ints))))

      -- and above
      none_above : (x y : ℤ) → y <ℤ pos 0 → cell (joined_picture half p q r s) x y ≡ 0
      none_above x y h = none x y (off_y a half ea x y (inl h)) (off_y b half eb _ _ (inl (omega (arith, ints)))) (off_y c half ec _ _ (inl (omega (arith, ints)))) (off_y d half ed _ _ (inl (omega (arith, ints))))

      at_nw : (x y : ℕ) → x < half → y < half → cell (joined_picture half p q r s) (pos x) (pos y) ≡ a x y
      at_nw x y h k =
          let e = pa (pos x) (pos y) in
          let f = q_at (pos x) (pos y) ∙ off_x b half eb (pos x -ℤ pos half) (pos y -ℤ pos 0) (inl (omega (arith, ints))) in
          let g = r_at (pos x) (pos y) ∙ off_y c half ec (pos x -ℤ pos 0) (pos y -ℤ pos half) (inl (omega (arith, ints))) in
          let i = s_at (pos x) (pos y) ∙ off_x d half ed (pos x -ℤ pos half) (pos y -ℤ pos half) (inl (omega (arith, ints))) in
          joined_sum (pos x) (pos y) (record { last = inl g; third = inl f; first = inr (omega arith) }) ∙ omega arith

      at_ne : (x y : ℕ) → half ≤ x → y < half → cell (joined_picture half p q r s) (pos x) (pos y) ≡ b (x - half) y
      at_ne x y h k =
          let e = pa (pos x) (pos y) ∙ off_x a half ea (pos x) (pos y) (inr (omega (arith, ints))) in
          let f = q_at (pos x) (pos y) ∙ at_corner b (pos x -ℤ pos half) (pos y -ℤ pos 0) (x - half) y (omega (arith, ints)) (omega (arith, ints)) in
          let g = r_at (pos x) (pos y) ∙ off_y c half ec (pos x -ℤ pos 0) (pos y -ℤ pos half) (inl (omega (arith, ints))) in
          let i = s_at (pos x) (pos y) ∙ off_y d half ed (pos x -ℤ pos half) (pos y -ℤ pos half) (inl (omega (arith, ints))) in
          joined_sum (pos x) (pos y) (record { last = inl g; third = inr (omega arith); first = inl e }) ∙ omega arith

      at_sw : (x y : ℕ) → x < half → half ≤ y → cell (joined_picture half p q r s) (pos x) (pos y) ≡ c x (y - half)
      at_sw x y h k =
          let e = pa (pos x) (pos y) ∙ off_y a half ea (pos x) (pos y) (inr (omega (arith, ints))) in
          let f = q_at (pos x) (pos y) ∙ off_x b half eb (pos x -ℤ pos half) (pos y -ℤ pos 0) (inl (omega (arith, ints))) in
          let g = r_at (pos x) (pos y) ∙ at_corner c (pos x -ℤ pos 0) (pos y -ℤ pos half) x (y - half) (omega (arith, ints)) (omega (arith, ints)) in
          let i = s_at (pos x) (pos y) ∙ off_x d half ed (pos x -ℤ pos half) (pos y -ℤ pos half) (inl (omega (arith, ints))) in
          joined_sum (pos x) (pos y) (record { last = inr i; third = inl f; first = inl e }) ∙ omega arith

      at_se : (x y : ℕ) → half ≤ x → half ≤ y → cell (joined_picture half p q r s) (pos x) (pos y) ≡ d (x - half) (y - half)
      at_se x y h k =
          let e = pa (pos x) (pos y) ∙ off_x a half ea (pos x) (pos y) (inr (omega (arith, ints))) in
          let f = q_at (pos x) (pos y) ∙ off_y b half eb (pos x -ℤ pos half) (pos y -ℤ pos 0) (inr (omega (arith, ints))) in
          let g = r_at (pos x) (pos y) ∙ off_x c half ec (pos x -ℤ pos 0) (pos y -ℤ pos half) (inr (omega (arith, ints))) in
          let i = s_at (pos x) (pos y) ∙ at_corner d (pos x -ℤ pos half) (pos y -ℤ pos half) (x - half) (y - half) (omega (arith, ints)) (omega (arith, ints)) in
          joined_sum (pos x) (pos y) (record { last = inl g; third = inl f; first = inl e }) ∙ omega arith

      pub joined_cell : (x y : ℤ) → cell (joined_picture half p q r s) x y ≡ from_corner (joined_cells half a b c d) x y
      joined_cell (pos x) (pos y) =
          elim (below_or_not x half) [
            | inl h ↦ elim (below_or_not y half) [
              | inl k ↦ at_nw x y h k ∙ sym (in_nw half a b c d x y h k)
              | inr k ↦ at_sw x y h k ∙ sym (in_sw half a b c d x y h k)
            ]
            | inr h ↦ elim (below_or_not y half) [
              | inl k ↦ at_ne x y h k ∙ sym (in_ne half a b c d x y h k)
              | inr k ↦ at_se x y h k ∙ sym (in_se half a b c d x y h k)
            ]
          ]
      joined_cell (pos x) (negsuc y) = none_above (pos x) (negsuc y) (omega (arith, ints))
      joined_cell (negsuc x) (pos y) = none_left (negsuc x) (pos y) (omega (arith, ints))
      joined_cell (negsuc x) (negsuc y) = none_left (negsuc x) (negsuc y) (omega (arith, ints))
