-- Pictures of squares, cell by cell, beside cells that are counted from a corner.
use Rattle.std.proofs.Common.{◌≡◌, ◌≢◌, ℕ, zero, suc, ◌+◌, ◌-◌, ◌/◌, ◌%◌, ◌<◌, ◌≤◌, ◌^◌, ◌==◌, inl, inr, true, ◌&&◌, ℤ, pos, negsuc, ◌+ℤ◌, ◌-ℤ◌, ◌<ℤ◌, List, [], ◌∷◌, ◌++◌, map, slice_index, refl, sym, ap, ap₂, ◌∙◌, arith, if◌then◌else◌}
use Rattle.std.specs.List.{AllByRecursion, slice_index_or}
use Rattle.std.specs.Int.{bit_at}
use Rattle.std.specs.Ordering.{int_eq}
use Rattle.std.proofs.Math.Nat.{two-pow-succ}
use Rattle.std.proofs.lemmas.Bool.{cases_Bool, eqb-true}
use Rattle.std.proofs.lemmas.Bool.Decides.{nat_tests, Decides-int_eq}
use Rattle.std.proofs.lemmas.Int.{ints}
use Rattle.std.proofs.lemmas.Nat.Bits.{bit_at-zero, bit_at_lowest, bit_at-suc}
use Rattle.ca_plane.specs.Prelude.{Picture, cell, shifted, from_corner, row_cells}
use Rattle.ca_plane.proofs.Shifts.{cell-shifted}
use Rattle.ca_quad.specs.Prelude.{one_cell, joined_cells}
use Rattle.ca_quad.specs.inner.Measure.{EndsWithin}
use Rattle.ca_quad.proofs.Cells.{in_nw, in_ne, in_sw, in_se, dot_ends, together_ends}
use Rattle.ca_plane.proofs.Numbers.{below_or_not}
use Rattle.ca_macro.specs.Prelude.{row_from, rows_from, leaf_state, joined_picture}
use Rattle.ca_macro.specs.inner.Written.{row_marks, IsPictureOfSquare}
use Rattle.ca_plane.proofs.Elements.{all_append}

-- ---- one picture after another

-- no point of a picture is listed as dead
abbrev pub NoneDead : Picture → Type 0
NoneDead p = AllByRecursion (λ e. e.1 ≢ 0) p

-- the first state, or else the second
abbrev pub or_else : ℕ → ℕ → ℕ
or_else state other = if state == 0 then other else state

or_live : (s other : ℕ) → s ≢ 0 → or_else s other ≡ s
or_live s other h = elim (cases_Bool (s == 0)) [ inl e ↦ absurd (h (eqb-true s 0 e)) | inr e ↦ rw e refl ]

or_zero : (s : ℕ) → or_else s 0 ≡ s
or_zero s = elim (cases_Bool (s == 0)) [ inl e ↦ rw e (sym (eqb-true s 0 e)) | inr e ↦ rw e refl ]

pub cell-append : (p q : Picture) (x y : ℤ) → NoneDead p → cell (p ++ q) x y ≡ or_else (cell p x y) (cell q x y)
cell-append [] q x y h = refl
cell-append (e ∷ es) q x y h =
    elim (cases_Bool (int_eq y e.0.y && int_eq x e.0.x)) [
      | inl t ↦ rw t (sym (or_live e.1 (cell q x y) h.0))
      | inr t ↦ rw t (cell-append es q x y h.1)
    ]

-- ---- rows

-- the item at a place of a list; 0 before it and after it
abbrev along : List ℕ → ℤ → ℕ
along ss (pos i) = slice_index ss i
along ss (negsuc i) = 0

along_first : (s : ℕ) (ss : List ℕ) (d : ℤ) → d ≡ pos 0 → along (s ∷ ss) d ≡ s
along_first s ss d e = rw e refl

along_next : (s : ℕ) (ss : List ℕ) (d e : ℤ) → (d ≡ pos 0 → ⊥) → e ≡ d -ℤ pos 1 → along (s ∷ ss) d ≡ along ss e
along_next s ss (pos zero) e h f = absurd (h refl)
along_next s ss (pos (suc i)) e h f = let g : e ≡ pos i = omega (arith, ints) in rw g refl
along_next s ss (negsuc i) e h f = let g : e ≡ negsuc (suc i) = omega (arith, ints) in rw g refl

along_dead : (ss : List ℕ) (d e : ℤ) → e ≡ d -ℤ pos 1 → along (0 ∷ ss) d ≡ along ss e
along_dead ss (pos zero) e f = let g : e ≡ negsuc 0 = omega (arith, ints) in rw g refl
along_dead ss (pos (suc i)) e f = let g : e ≡ pos i = omega (arith, ints) in rw g refl
along_dead ss (negsuc i) e f = let g : e ≡ negsuc (suc i) = omega (arith, ints) in rw g refl

row_cell : (ss : List ℕ) (left top x y : ℤ) → cell (row_from left top ss) x y ≡ (if int_eq y top then along ss (x -ℤ left) else 0)
row_cell [] left top x y = elim (cases_Bool (int_eq y top)) [ inl t ↦ rw t (nothing (x -ℤ left)) | inr t ↦ rw t refl ]
  where
    nothing : (d : ℤ) → 0 ≡ along [] d
    nothing (pos i) = refl
    nothing (negsuc i) = refl
row_cell (s ∷ ss) left top x y =
    let before : x -ℤ (left +ℤ pos 1) ≡ (x -ℤ left) -ℤ pos 1 = omega (arith, ints) in
    let more = row_cell ss (left +ℤ pos 1) top x y in
    elim (cases_Bool (s == 0)) [
      | inl z ↦
          let dead : s ≡ 0 = eqb-true s 0 z in
          rw z (more ∙ ap (λ n. if int_eq y top then n else 0) (sym (along_dead ss (x -ℤ left) (x -ℤ (left +ℤ pos 1)) before) ∙ ap (λ n. along (n ∷ ss) (x -ℤ left)) (sym dead)))
      | inr z ↦ elim (cases_Bool (int_eq y top)) [
        | inl t ↦ elim (cases_Bool (int_eq x left)) [
          | inl u ↦
              let same : x ≡ left = (Decides-int_eq x left).0 u in
              let here : x -ℤ left ≡ pos 0 = omega (arith, ints) in
              rw (z, t, u) (sym (along_first s ss (x -ℤ left) here))
          | inr u ↦
              let there : (x -ℤ left ≡ pos 0) → ⊥ = λ d. let same : x ≡ left = omega (arith, ints) in let v = (Decides-int_eq x left).1 same in absurd cc in
              rw (z, t, u) (rw t at more ∙ sym (along_next s ss (x -ℤ left) (x -ℤ (left +ℤ pos 1)) there before))
        ]
        | inr t ↦ rw (z, t) (rw t at more)
      ]
    ]

row_live : (ss : List ℕ) (left top : ℤ) → NoneDead (row_from left top ss)
row_live [] left top = tt
row_live (s ∷ ss) left top =
    elim (cases_Bool (s == 0)) [
      | inl z ↦ rw z (row_live ss (left +ℤ pos 1) top)
      | inr z ↦ rw z ((λ e. let f : (s == 0) ≡ true = rw e refl in absurd cc), row_live ss (left +ℤ pos 1) top)
    ]

pub rows_live : (rows : List (List ℕ)) (top : ℤ) → NoneDead (rows_from top rows)
rows_live [] top = tt
rows_live (r ∷ rs) top = all_append _ (row_from (pos 0) top r) (rows_from (top +ℤ pos 1) rs) (row_live r (pos 0) top) (rows_live rs (top +ℤ pos 1))

-- the state at a place of rows, from the first onwards
abbrev in_rows : List (List ℕ) → ℤ → ℤ → ℕ
in_rows rows x (pos j) = along (slice_index_or rows j []) x
in_rows rows x (negsuc j) = 0

nothing_along : (x : ℤ) → 0 ≡ along [] x
nothing_along (pos i) = refl
nothing_along (negsuc i) = refl

no_rows : (x d : ℤ) → 0 ≡ in_rows [] x d
no_rows x (pos j) = nothing_along x
no_rows x (negsuc j) = refl

rows_first : (r : List ℕ) (rs : List (List ℕ)) (x d e : ℤ) → d ≡ pos 0 → e ≡ d -ℤ pos 1 → or_else (along r x) (in_rows rs x e) ≡ in_rows (r ∷ rs) x d
rows_first r rs x d e h f =
    let g : e ≡ negsuc 0 = omega (arith, ints) in
    rw (h, g) (or_zero (along r x))

rows_next : (r : List ℕ) (rs : List (List ℕ)) (x d e : ℤ) → (d ≡ pos 0 → ⊥) → e ≡ d -ℤ pos 1 → in_rows rs x e ≡ in_rows (r ∷ rs) x d
rows_next r rs x (pos zero) e h f = absurd (h refl)
rows_next r rs x (pos (suc j)) e h f = let g : e ≡ pos j = omega (arith, ints) in rw g refl
rows_next r rs x (negsuc j) e h f = let g : e ≡ negsuc (suc j) = omega (arith, ints) in rw g refl

rows_cell : (rows : List (List ℕ)) (top x y : ℤ) → cell (rows_from top rows) x y ≡ in_rows rows x (y -ℤ top)
rows_cell [] top x y = no_rows x (y -ℤ top)
rows_cell (r ∷ rs) top x y =
    let before : y -ℤ (top +ℤ pos 1) ≡ (y -ℤ top) -ℤ pos 1 = omega (arith, ints) in
    let from : x -ℤ pos 0 ≡ x = omega (arith, ints) in
    let both = cell-append (row_from (pos 0) top r) (rows_from (top +ℤ pos 1) rs) x y (row_live r (pos 0) top) in
    let first : cell (row_from (pos 0) top r) x y ≡ (if int_eq y top then along r x else 0) = row_cell r (pos 0) top x y ∙ ap (λ d. if int_eq y top then along r d else 0) from in
    let later = rows_cell rs (top +ℤ pos 1) x y in
    both ∙ ap₂ or_else first later
    ∙ elim (cases_Bool (int_eq y top)) [
      | inl t ↦
          let same : y ≡ top = (Decides-int_eq y top).0 t in
          let here : y -ℤ top ≡ pos 0 = omega (arith, ints) in
          rw t (rows_first r rs x (y -ℤ top) (y -ℤ (top +ℤ pos 1)) here before)
      | inr t ↦
          let there : (y -ℤ top ≡ pos 0) → ⊥ = λ d. let same : y ≡ top = omega (arith, ints) in let v = (Decides-int_eq y top).1 same in absurd cc in
          rw t (rows_next r rs x (y -ℤ top) (y -ℤ (top +ℤ pos 1)) there before)
    ]

-- rows show cells that are theirs
pub rows_show : (rows : List (List ℕ)) (cells : ℕ → ℕ → ℕ) → ((x y : ℕ) → slice_index (slice_index_or rows y []) x ≡ cells x y) → IsPictureOfSquare (rows_from (pos 0) rows) cells
rows_show rows cells same = λ x y. rows_cell rows (pos 0) x y ∙ ap (in_rows rows x) (from y) ∙ at x y
  where
    from : (y : ℤ) → y -ℤ pos 0 ≡ y
    from y = omega (arith, ints)

    at : (x y : ℤ) → in_rows rows x y ≡ from_corner cells x y
    at (pos x) (pos y) = same x y
    at (pos x) (negsuc y) = refl
    at (negsuc x) (pos y) = refl
    at (negsuc x) (negsuc y) = refl

-- ---- leaves

state_bit : (b : ℕ) → leaf_state (b % 2 == 1) ≡ b % 2
state_bit b =
    elim (cases_Bool (b % 2 == 1)) [
      | inl e ↦ rw e (sym (eqb-true (b % 2) 1 e))
      | inr e ↦ rw e (let z : 0 ≡ b % 2 = grind (arith, nat_tests) in z)
    ]

bit_next : (live : ℕ) (more : List ℕ) (bits : ℕ) → live ≡ bits % 2 → ((i : ℕ) → slice_index more i ≡ bit_at (bits / 2) i) → (i : ℕ) → slice_index (live ∷ more) i ≡ bit_at bits i
bit_next live more bits e later zero = e ∙ sym (bit_at_lowest bits)
bit_next live more bits e later (suc i) = later i ∙ sym (bit_at-suc bits i)

row_bit : (width bits i : ℕ) → bits < 2 ^ width → slice_index (map leaf_state (row_marks width bits)) i ≡ bit_at bits i
row_bit zero bits i h = let z : bits ≡ 0 = omega arith in rw z (sym (bit_at-zero i))
row_bit (suc width) bits i h =
    let half : bits / 2 < 2 ^ width = omega (arith, two-pow-succ width) in
    elim (cases_Bool (bits == 0)) [
      | inl e ↦ rw e (sym (ap (λ b. bit_at b i) (eqb-true bits 0 e) ∙ bit_at-zero i))
      | inr e ↦ rw e (bit_next (leaf_state (bits % 2 == 1)) (map leaf_state (row_marks width (bits / 2))) bits (state_bit bits) (λ j. row_bit width (bits / 2) j half) i)
    ]

rows_at : (bytes : List ℕ) (j : ℕ) → slice_index_or (map (map leaf_state) (map (row_marks 8) bytes)) j [] ≡ map leaf_state (row_marks 8 (slice_index bytes j))
rows_at [] j = refl
rows_at (b ∷ bs) zero = refl
rows_at (b ∷ bs) (suc j) = rows_at bs j

pub leaf_shows : (bytes : List ℕ) (cells : ℕ → ℕ → ℕ) → ((y : ℕ) → slice_index bytes y < 256) → ((x y : ℕ) → cells x y ≡ row_cells bytes x y)
    → IsPictureOfSquare (rows_from (pos 0) (map (map leaf_state) (map (row_marks 8) bytes))) cells
leaf_shows bytes cells low same =
    rows_show (map (map leaf_state) (map (row_marks 8) bytes)) cells (λ x y. ap (λ r. slice_index r x) (rows_at bytes y) ∙ row_bit 8 (slice_index bytes y) x (low y) ∙ sym (same x y))

-- ---- four cells

pub four_end : (nw ne sw se : ℕ) → EndsWithin (1 + 1) (joined_cells 1 (one_cell nw) (one_cell ne) (one_cell sw) (one_cell se))
four_end nw ne sw se =
    let one : 1 ≤ 1 = omega arith in
    together_ends 1 (one_cell nw) (one_cell ne) (one_cell sw) (one_cell se) (dot_ends nw 1 one) (dot_ends ne 1 one) (dot_ends sw 1 one) (dot_ends se 1 one)

four_at : (nw ne sw se : ℕ) (x y : ℕ) → slice_index (slice_index_or ((nw ∷ ne ∷ []) ∷ (sw ∷ se ∷ []) ∷ []) y []) x ≡ joined_cells 1 (one_cell nw) (one_cell ne) (one_cell sw) (one_cell se) x y
four_at nw ne sw se zero zero = refl
four_at nw ne sw se (suc zero) zero = refl
four_at nw ne sw se zero (suc zero) = refl
four_at nw ne sw se (suc zero) (suc zero) = refl
four_at nw ne sw se (suc (suc x)) zero = sym (four_end nw ne sw se (suc (suc x)) zero (inl (omega arith)))
four_at nw ne sw se (suc (suc x)) (suc zero) = sym (four_end nw ne sw se (suc (suc x)) (suc zero) (inl (omega arith)))
four_at nw ne sw se x (suc (suc y)) = sym (four_end nw ne sw se x (suc (suc y)) (inr (omega arith)))

pub four_show : (nw ne sw se : ℕ) (cells : ℕ → ℕ → ℕ) → ((x y : ℕ) → cells x y ≡ joined_cells 1 (one_cell nw) (one_cell ne) (one_cell sw) (one_cell se) x y)
    → IsPictureOfSquare (rows_from (pos 0) ((nw ∷ ne ∷ []) ∷ (sw ∷ se ∷ []) ∷ [])) cells
four_show nw ne sw se cells same = rows_show ((nw ∷ ne ∷ []) ∷ (sw ∷ se ∷ []) ∷ []) cells (λ x y. four_at nw ne sw se x y ∙ sym (same x y))

-- ---- four squares

corner_at : (cells : ℕ → ℕ → ℕ) (u v : ℤ) (i j : ℕ) → u ≡ pos i → v ≡ pos j → from_corner cells u v ≡ cells i j
corner_at cells u v i j e f = rw (e, f) refl

left_of : (cells : ℕ → ℕ → ℕ) (u v : ℤ) → u <ℤ pos 0 → from_corner cells u v ≡ 0
left_of cells (pos i) v h = absurd (omega (arith, ints))
left_of cells (negsuc i) (pos j) h = refl
left_of cells (negsuc i) (negsuc j) h = refl

above : (cells : ℕ → ℕ → ℕ) (u v : ℤ) → v <ℤ pos 0 → from_corner cells u v ≡ 0
above cells u (pos j) h = absurd (omega (arith, ints))
above cells (pos i) (negsuc j) h = refl
above cells (negsuc i) (negsuc j) h = refl

pub shifted_live : (p : Picture) (dx dy : ℤ) → NoneDead p → NoneDead (shifted p dx dy)
shifted_live [] dx dy l = tt
shifted_live (e ∷ es) dx dy l = (l.0, shifted_live es dx dy l.1)

corner_same : (f g : ℕ → ℕ → ℕ) → ((x y : ℕ) → f x y ≡ g x y) → (x y : ℤ) → from_corner f x y ≡ from_corner g x y
corner_same f g same (pos x) (pos y) = same x y
corner_same f g same (pos x) (negsuc y) = refl
corner_same f g same (negsuc x) (pos y) = refl
corner_same f g same (negsuc x) (negsuc y) = refl

-- a picture shows all that is the same cell by cell
pub picture_as : (p : Picture) (f g : ℕ → ℕ → ℕ) → ((x y : ℕ) → f x y ≡ g x y) → IsPictureOfSquare p f → IsPictureOfSquare p g
picture_as p f g same h = λ x y. h x y ∙ corner_same f g same x y

-- the first of four states that isn't 0
abbrev first_of : (a b c d : ℕ) → ℕ
first_of a b c d = or_else a (or_else b (or_else c d))

module _ (half : ℕ) (p q r s : ℕ → ℕ → ℕ) (ends_p : EndsWithin half p) (ends_q : EndsWithin half q) (ends_r : EndsWithin half r) where
  abbrev laid : ℤ → ℤ → ℕ
  laid x y =
      first_of (from_corner p x y) (from_corner q (x -ℤ pos half) (y -ℤ pos 0)) (from_corner r (x -ℤ pos 0) (y -ℤ pos half)) (from_corner s (x -ℤ pos half) (y -ℤ pos half))

  laid_as : (x y : ℤ) (a b c d n : ℕ) → from_corner p x y ≡ a → from_corner q (x -ℤ pos half) (y -ℤ pos 0) ≡ b → from_corner r (x -ℤ pos 0) (y -ℤ pos half) ≡ c
      → from_corner s (x -ℤ pos half) (y -ℤ pos half) ≡ d → first_of a b c d ≡ n → laid x y ≡ n
  laid_as x y a b c d n e f g h same = rw (e, f, g, h) same

  within : (i j : ℕ) → laid (pos i) (pos j) ≡ joined_cells half p q r s i j
  within i j =
      let x0 : pos i -ℤ pos 0 ≡ pos i = omega (arith, ints) in
      let y0 : pos j -ℤ pos 0 ≡ pos j = omega (arith, ints) in
      elim (below_or_not i half) [
        | inl k ↦ elim (below_or_not j half) [
          | inl l ↦
              laid_as (pos i) (pos j) (p i j) 0 0 0 (joined_cells half p q r s i j) refl (left_of q (pos i -ℤ pos half) (pos j -ℤ pos 0) (omega (arith, ints))) (above r (pos i -ℤ pos 0) (pos j -ℤ pos half) (omega (arith, ints))) (left_of s (pos i -ℤ pos half) (pos j -ℤ pos half) (omega (arith, ints)))
              (or_zero (p i j) ∙ sym (in_nw half p q r s i j k l))
          | inr l ↦
              let down : pos j -ℤ pos half ≡ pos (j - half) = omega (arith, ints) in
              laid_as (pos i) (pos j) 0 0 (r i (j - half)) 0 (joined_cells half p q r s i j) (ends_p i j (inr l)) (left_of q (pos i -ℤ pos half) (pos j -ℤ pos 0) (omega (arith, ints))) (corner_at r (pos i -ℤ pos 0) (pos j -ℤ pos half) i (j - half) x0 down)
              (left_of s (pos i -ℤ pos half) (pos j -ℤ pos half) (omega (arith, ints))) (or_zero (r i (j - half)) ∙ sym (in_sw half p q r s i j k l))
        ]
        | inr k ↦
            let right : pos i -ℤ pos half ≡ pos (i - half) = omega (arith, ints) in
            elim (below_or_not j half) [
              | inl l ↦
                  laid_as (pos i) (pos j) 0 (q (i - half) j) 0 0 (joined_cells half p q r s i j) (ends_p i j (inl k)) (corner_at q (pos i -ℤ pos half) (pos j -ℤ pos 0) (i - half) j right y0) (above r (pos i -ℤ pos 0) (pos j -ℤ pos half) (omega (arith, ints)))
                  (above s (pos i -ℤ pos half) (pos j -ℤ pos half) (omega (arith, ints))) (or_zero (q (i - half) j) ∙ sym (in_ne half p q r s i j k l))
              | inr l ↦
                  let down : pos j -ℤ pos half ≡ pos (j - half) = omega (arith, ints) in
                  laid_as (pos i) (pos j) 0 0 0 (s (i - half) (j - half)) (joined_cells half p q r s i j) (ends_p i j (inl k))
                  (corner_at q (pos i -ℤ pos half) (pos j -ℤ pos 0) (i - half) j right y0 ∙ ends_q (i - half) j (inr l)) (corner_at r (pos i -ℤ pos 0) (pos j -ℤ pos half) i (j - half) x0 down ∙ ends_r i (j - half) (inl k))
                  (corner_at s (pos i -ℤ pos half) (pos j -ℤ pos half) (i - half) (j - half) right down) (sym (in_se half p q r s i j k l))
            ]
      ]

  all_around : (x y : ℤ) → laid x y ≡ from_corner (joined_cells half p q r s) x y
  all_around (pos i) (pos j) = within i j
  all_around (pos i) (negsuc j) =
      laid_as (pos i) (negsuc j) 0 0 0 0 0 refl (above q (pos i -ℤ pos half) (negsuc j -ℤ pos 0) (omega (arith, ints))) (above r (pos i -ℤ pos 0) (negsuc j -ℤ pos half) (omega (arith, ints))) (above s (pos i -ℤ pos half) (negsuc j -ℤ pos half) (omega (arith, ints))) refl
  all_around (negsuc i) (pos j) =
      laid_as (negsuc i) (pos j) 0 0 0 0 0 refl (left_of q (negsuc i -ℤ pos half) (pos j -ℤ pos 0) (omega (arith, ints))) (left_of r (negsuc i -ℤ pos 0) (pos j -ℤ pos half) (omega (arith, ints))) (left_of s (negsuc i -ℤ pos half) (pos j -ℤ pos half) (omega (arith, ints))) refl
  all_around (negsuc i) (negsuc j) =
      laid_as (negsuc i) (negsuc j) 0 0 0 0 0 refl (left_of q (negsuc i -ℤ pos half) (negsuc j -ℤ pos 0) (omega (arith, ints))) (left_of r (negsuc i -ℤ pos 0) (negsuc j -ℤ pos half) (omega (arith, ints))) (left_of s (negsuc i -ℤ pos half) (negsuc j -ℤ pos half) (omega (arith, ints))) refl

  -- four pictures that are joined show their cells together
  pub joined_show : (a b c d : Picture) → NoneDead a → NoneDead b → NoneDead c → IsPictureOfSquare a p → IsPictureOfSquare b q → IsPictureOfSquare c r → IsPictureOfSquare d s
      → IsPictureOfSquare (joined_picture half a b c d) (joined_cells half p q r s)
  joined_show a b c d u v w e f g h = λ x y.
      cell-append a _ x y u
      ∙ ap₂ or_else (e x y)
      (cell-append (shifted b (pos half) (pos 0)) _ x y (shifted_live b (pos half) (pos 0) v)
      ∙ ap₂ or_else (cell-shifted b (pos half) (pos 0) x y ∙ f (x -ℤ pos half) (y -ℤ pos 0))
      (cell-append (shifted c (pos 0) (pos half)) _ x y (shifted_live c (pos 0) (pos half) w)
      ∙ ap₂ or_else (cell-shifted c (pos 0) (pos half) x y ∙ g (x -ℤ pos 0) (y -ℤ pos half)) (cell-shifted d (pos half) (pos half) x y ∙ h (x -ℤ pos half) (y -ℤ pos half))))
      ∙ all_around x y
