-- Words that are cut out of four.
use Rattle.std.proofs.Common.{◌≡◌, ℕ, inl, inr, ◌+◌, ◌-◌, ◌*◌, ◌/◌, ◌%◌, ◌<◌, ◌≤◌, ◌^◌, true, false, refl, div-add-mod', min, max, ◌==◌, nat_lt, if◌then◌else◌, bit_and, bit_or, Result, Ok, Err, IfOk, List, sym, ap, subst, ◌∙◌, arith}
use Rattle.std.specs.Int.{bit_at}
use Rattle.std.proofs.lemmas.Bool.{eqb-true, agree_below_at}
use Rattle.std.proofs.lemmas.Bool.Decides.{nat_tests}
use Rattle.std.proofs.lemmas.Nat.Bits.{bit_at-lt, bit_at_and, bit_at_or, bit_at_cat_low, bit_at_cat_high}
use Rattle.ca_quad.specs.declared.{neighbours.Neighbours.Neighbours, node.Node.Node, store.cut.Offset.Offset}
use Rattle.ca_quad.specs.Prelude.{cell_of, ShowsSquare}
use Rattle.ca_plane.specs.Prelude.{word_cells}
use Rattle.ca_quad.specs.inner.Cut.{cells_of_four, IsCutWord}
use Rattle.ca_quad.specs.inner.Window.{ShowsFrom}
use Rattle.ca_quad.proofs.Cells.{in_nw, in_ne, in_sw, in_se}
use Rattle.ca_plane.proofs.Numbers.{below_or_not}
use Rattle.ca_quad.proofs.Bits.{above_shift, down_shift}

-- the low bits of a number
pub low_bits : (n k i : ℕ) → i < k → bit_at (n % 2 ^ k) i ≡ bit_at n i
low_bits n k i h =
    let e : n / 2 ^ k * 2 ^ k + n % 2 ^ k ≡ n = div-add-mod' n (2 ^ k) in
    sym (bit_at_cat_low (n / 2 ^ k) k (n % 2 ^ k) i h) ∙ ap (λ m. bit_at m i) e

-- a cell of a word is one of its bits
pub cell_bit : (word x y : ℕ) → x < 8 → word_cells word x y ≡ bit_at word (8 * y + x)
cell_bit word x y h = let e : nat_lt x 8 ≡ true = grind (arith, nat_tests) in rw e refl

-- the rows of two words from `row` onwards
module _ (north south row : ℕ) (fits : north < 2 ^ 64) where
  order : north + 18446744073709551616 * south ≡ south * 2 ^ 64 + north
  order = omega arith

  shifted_bit : (i : ℕ) → i < 64 → bit_at ((north + 18446744073709551616 * south) / 2 ^ (8 * row) % 2 ^ 64) i ≡ bit_at (south * 2 ^ 64 + north) (i + 8 * row)
  shifted_bit i h = low_bits ((north + 18446744073709551616 * south) / 2 ^ (8 * row)) 64 i h ∙ (down_shift (north + 18446744073709551616 * south) (8 * row) i ∙ ap (λ m. bit_at m (i + 8 * row)) order)

  pub north_rows : (x y : ℕ) → x < 8 → row + y < 8 → word_cells ((north + 18446744073709551616 * south) / 2 ^ (8 * row) % 2 ^ 64) x y ≡ word_cells north x (row + y)
  north_rows x y h i =
      let e : 8 * y + x + 8 * row ≡ 8 * (row + y) + x = omega arith in
      cell_bit _ x y h ∙ (shifted_bit (8 * y + x) (omega arith) ∙ (bit_at_cat_low south 64 north (8 * y + x + 8 * row) (omega arith) ∙ (ap (bit_at north) e ∙ sym (cell_bit north x (row + y) h))))

  pub south_rows : (x y : ℕ) → x < 8 → y < 8 → 8 ≤ row + y → word_cells ((north + 18446744073709551616 * south) / 2 ^ (8 * row) % 2 ^ 64) x y ≡ word_cells south x (row + y - 8)
  south_rows x y h i j =
      let e : 8 * y + x + 8 * row - 64 ≡ 8 * (row + y - 8) + x = omega arith in
      cell_bit _ x y h ∙ (shifted_bit (8 * y + x) (omega arith) ∙ (bit_at_cat_high south 64 north (8 * y + x + 8 * row) fits (omega arith) ∙ (ap (bit_at south) e ∙ sym (cell_bit south x (row + y - 8) h))))

-- a word whose first columns are ones
abbrev pub columns : ℕ → ℕ
columns fewer = 72340172838076673 * (255 / 2 ^ fewer)

-- all bits of all eight such words
kept_all : (n : ℕ) → n < 512 → bit_at (columns (n / 64)) (n % 64) ≡ (if nat_lt (n / 64 + n % 8) 8 then 1 else 0)
kept_all n h = eqb-true _ _ (agree_below_at (λ n. bit_at (columns (n / 64)) (n % 64) == (if nat_lt (n / 64 + n % 8) 8 then 1 else 0)) (λ n. true) 512 n refl h)

left_all : (n : ℕ) → n < 512 → bit_at (18446744073709551615 - columns (n / 64)) (n % 64) ≡ (if nat_lt (n / 64 + n % 8) 8 then 0 else 1)
left_all n h = eqb-true _ _ (agree_below_at (λ n. bit_at (18446744073709551615 - columns (n / 64)) (n % 64) == (if nat_lt (n / 64 + n % 8) 8 then 0 else 1)) (λ n. true) 512 n refl h)

module _ (column x y : ℕ) (small : column < 8) (h : x < 8) (i : y < 8) where
  is_column : (64 * column + (8 * y + x)) / 64 ≡ column
  is_column = omega arith

  is_bit : (64 * column + (8 * y + x)) % 64 ≡ 8 * y + x
  is_bit = omega arith

  is_x : (64 * column + (8 * y + x)) % 8 ≡ x
  is_x = omega arith

  pub kept_bit : bit_at (columns column) (8 * y + x) ≡ (if nat_lt (column + x) 8 then 1 else 0)
  kept_bit = rw (is_column, is_bit, is_x) at (kept_all (64 * column + (8 * y + x)) (omega arith))

  pub left_bit : bit_at (18446744073709551615 - columns column) (8 * y + x) ≡ (if nat_lt (column + x) 8 then 0 else 1)
  left_bit = rw (is_column, is_bit, is_x) at (left_all (64 * column + (8 * y + x)) (omega arith))

-- the columns of two words from `column` onwards
module _ (west east column : ℕ) (small : column < 8) where
  abbrev cut : ℕ
  cut = bit_or (bit_and (west / 2 ^ column) (columns column)) (bit_and (east * 2 ^ (8 - column) % 2 ^ 64) (18446744073709551615 - columns column))

  bits : (i : ℕ) → i < 64 → bit_at cut i ≡ max (min (bit_at west (i + column)) (bit_at (columns column) i)) (min (bit_at (east * 2 ^ (8 - column)) i) (bit_at (18446744073709551615 - columns column) i))
  bits i h =
      bit_at_or (bit_and (west / 2 ^ column) (columns column)) (bit_and (east * 2 ^ (8 - column) % 2 ^ 64) (18446744073709551615 - columns column)) i
      ∙ rw (bit_at_and (west / 2 ^ column) (columns column) i, bit_at_and (east * 2 ^ (8 - column) % 2 ^ 64) (18446744073709551615 - columns column) i, down_shift west column i, low_bits (east * 2 ^ (8 - column)) 64 i h) refl

  pub west_columns : (x y : ℕ) → column + x < 8 → y < 8 → word_cells cut x y ≡ word_cells west (column + x) y
  west_columns x y h i =
      let under : nat_lt (column + x) 8 ≡ true = grind (arith, nat_tests) in
      let one : bit_at (columns column) (8 * y + x) ≡ 1 = kept_bit column x y small (omega arith) i ∙ rw under refl in
      let zero : bit_at (18446744073709551615 - columns column) (8 * y + x) ≡ 0 = left_bit column x y small (omega arith) i ∙ rw under refl in
      let e : 8 * y + x + column ≡ 8 * y + (column + x) = omega arith in
      let low = bit_at-lt west (8 * y + x + column) in
      let same : bit_at cut (8 * y + x) ≡ bit_at west (8 * y + x + column) = omega (arith, bits (8 * y + x) (omega arith), one, zero, low) in
      cell_bit cut x y (omega arith) ∙ (same ∙ (ap (bit_at west) e ∙ sym (cell_bit west (column + x) y h)))

  pub east_columns : (x y : ℕ) → x < 8 → y < 8 → 8 ≤ column + x → word_cells cut x y ≡ word_cells east (column + x - 8) y
  east_columns x y h i j =
      let over : nat_lt (column + x) 8 ≡ false = grind (arith, nat_tests) in
      let zero : bit_at (columns column) (8 * y + x) ≡ 0 = kept_bit column x y small h i ∙ rw over refl in
      let one : bit_at (18446744073709551615 - columns column) (8 * y + x) ≡ 1 = left_bit column x y small h i ∙ rw over refl in
      let e : 8 * y + x - (8 - column) ≡ 8 * y + (column + x - 8) = omega arith in
      let low = bit_at-lt east (8 * y + (column + x - 8)) in
      let up : bit_at (east * 2 ^ (8 - column)) (8 * y + x) ≡ bit_at east (8 * y + (column + x - 8)) = above_shift east (8 - column) (8 * y + x) (omega arith) ∙ ap (bit_at east) e in
      let same : bit_at cut (8 * y + x) ≡ bit_at east (8 * y + (column + x - 8)) = omega (arith, bits (8 * y + x) (omega arith), one, zero, low, up) in
      cell_bit cut x y h ∙ (same ∙ sym (cell_bit east (column + x - 8) y (omega arith)))

-- the cells of four squares of level 3 from a place onwards
module _ (nodes : List Node) (four : Neighbours) (nw ne sw se : ℕ) (a : (x y : ℕ) → cell_of nodes 3 four.nw x y ≡ word_cells nw x y) (b : (x y : ℕ) → cell_of nodes 3 four.ne x y ≡ word_cells ne x y)
    (c : (x y : ℕ) → cell_of nodes 3 four.sw x y ≡ word_cells sw x y) (d : (x y : ℕ) → cell_of nodes 3 four.se x y ≡ word_cells se x y) (px py : ℕ) (west east word : ℕ)
    (wn : (x y : ℕ) → x < 8 → py + y < 8 → word_cells west x y ≡ word_cells nw x (py + y)) (ws : (x y : ℕ) → x < 8 → y < 8 → 8 ≤ py + y → word_cells west x y ≡ word_cells sw x (py + y - 8))
    (en : (x y : ℕ) → x < 8 → py + y < 8 → word_cells east x y ≡ word_cells ne x (py + y)) (es : (x y : ℕ) → x < 8 → y < 8 → 8 ≤ py + y → word_cells east x y ≡ word_cells se x (py + y - 8))
    (cw : (x y : ℕ) → px + x < 8 → y < 8 → word_cells word x y ≡ word_cells west (px + x) y) (ce : (x y : ℕ) → x < 8 → y < 8 → 8 ≤ px + x → word_cells word x y ≡ word_cells east (px + x - 8) y)
    (low : px < 8) where
  pub four_words : (x y : ℕ) → x < 8 → y < 8 → word_cells word x y ≡ cells_of_four nodes 3 four (px + x) (py + y)
  four_words x y h k =
      let p = cell_of nodes 3 four.nw in
      let q = cell_of nodes 3 four.ne in
      let r = cell_of nodes 3 four.sw in
      let s = cell_of nodes 3 four.se in
      let u = px + x in
      let v = py + y in
      elim (below_or_not (px + x) 8) [
        | inl i ↦ elim (below_or_not (py + y) 8) [
          | inl j ↦ cw x y i k ∙ (wn u y i j ∙ (sym (a u v) ∙ sym (in_nw 8 p q r s u v i j)))
          | inr j ↦ cw x y i k ∙ (ws u y i k j ∙ (sym (c u (v - 8)) ∙ sym (in_sw 8 p q r s u v i j)))
        ]
        | inr i ↦ elim (below_or_not (py + y) 8) [
          | inl j ↦ ce x y h k i ∙ (en (u - 8) y (omega arith) j ∙ (sym (b (u - 8) v) ∙ sym (in_ne 8 p q r s u v i j)))
          | inr j ↦ ce x y h k i ∙ (es (u - 8) y (omega arith) k j ∙ (sym (d (u - 8) (v - 8)) ∙ sym (in_se 8 p q r s u v i j)))
        ]
      ]

-- the square of such a word is cut out of the four
pub word_window : {E : Type 0} (old new : List Node) (four : Neighbours) (place : Offset) (level word : ℕ) (r : Result ℕ E) → IsCutWord old level four place word → IfOk r (λ id. ShowsSquare new id 3 (word_cells word))
    → IfOk r (λ id. ShowsFrom new id level (cells_of_four old level four) place.x place.y)
word_window old new four place level word (Ok id) is h =
    subst (λ l. ShowsFrom new id l (cells_of_four old l four) place.x place.y) (sym is.is_level) (record { is_square = h.is_square; has_cells = λ x y i j. h.has_cells x y ∙ is.has_cells x y i j })
word_window old new four place level word (Err e) is h = tt

-- a cell of a word is 0 or 1
word_low : (word x y : ℕ) → word_cells word x y ≤ 1
word_low word x y =
    elim (below_or_not x 8) [
      | inl h ↦ subst (λ n. n ≤ 1) (sym (cell_bit word x y h)) (omega (arith, bit_at-lt word (8 * y + x)))
      | inr h ↦
          let e : nat_lt x 8 ≡ false = grind (arith, nat_tests) in
          let f : word_cells word x y ≡ 0 = rw e refl in
          omega (arith, f)
    ]

-- and so are those of four squares that are words
module _ (nodes : List Node) (four : Neighbours) (nw ne sw se : ℕ) (a : (x y : ℕ) → cell_of nodes 3 four.nw x y ≡ word_cells nw x y) (b : (x y : ℕ) → cell_of nodes 3 four.ne x y ≡ word_cells ne x y)
    (c : (x y : ℕ) → cell_of nodes 3 four.sw x y ≡ word_cells sw x y) (d : (x y : ℕ) → cell_of nodes 3 four.se x y ≡ word_cells se x y) where
  low_as : (n word x y : ℕ) → n ≡ word_cells word x y → n ≤ 1
  low_as n word x y e = subst (λ m. m ≤ 1) (sym e) (word_low word x y)

  pub words_low : (x y : ℕ) → cells_of_four nodes 3 four x y ≤ 1
  words_low x y =
      let p = cell_of nodes 3 four.nw in
      let q = cell_of nodes 3 four.ne in
      let r = cell_of nodes 3 four.sw in
      let s = cell_of nodes 3 four.se in
      elim (below_or_not x 8) [
        | inl i ↦ elim (below_or_not y 8) [
          | inl j ↦ low_as _ nw x y (in_nw 8 p q r s x y i j ∙ a x y)
          | inr j ↦ low_as _ sw x (y - 8) (in_sw 8 p q r s x y i j ∙ c x (y - 8))
        ]
        | inr i ↦ elim (below_or_not y 8) [
          | inl j ↦ low_as _ ne (x - 8) y (in_ne 8 p q r s x y i j ∙ b (x - 8) y)
          | inr j ↦ low_as _ se (x - 8) (y - 8) (in_se 8 p q r s x y i j ∙ d (x - 8) (y - 8))
        ]
      ]
