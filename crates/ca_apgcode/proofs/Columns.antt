-- Columns of cells as numbers.
use Rattle.std.proofs.Common.{◌≡◌, ℕ, ◌+◌, ◌*◌, ◌/◌, ◌%◌, ◌^◌, ◌<◌, ◌≤◌, List, length, get_or, slice_set, bit_or, replicate, refl, sym, ap, ◌∙◌, inl, inr, subst, arith}
use Rattle.std.specs.Int.{bit_at, w64}
use Rattle.std.proofs.lemmas.Bool.{cases_eq, cases_lt}
use Rattle.std.proofs.lemmas.List.{get_or-set_same, get_or-set_other, length-set, get_or_past, get_or-replicate, length-replicate}
use Rattle.std.proofs.lemmas.Grind.{get_or_default_zero}
use Rattle.std.proofs.lemmas.Nat.{shr-shr, or_lt, one_shl, pow_below, pow_pos}
use Rattle.std.proofs.lemmas.Nat.Bits.{bit_at-zero, bit_at_set_same, bit_at_set_other}
use Rattle.ca_apgcode.specs.Prelude.{GridCells, IsGrid, MakesLive, cell, five_cells}

-- the last five binary digits of a number
five_of : (m : ℕ) → m % 32 ≡ m % 2 + 2 * (m / 2 % 2) + 4 * (m / 4 % 2) + 8 * (m / 8 % 2) + 16 * (m / 16 % 2)
five_of m = omega arith

-- five binary digits of a number
pub five_bits : (n y : ℕ) → n / 2 ^ y % 32 ≡ bit_at n y + 2 * bit_at n (y + 1) + 4 * bit_at n (y + 2) + 8 * bit_at n (y + 3) + 16 * bit_at n (y + 4)
five_bits n y = rw (← shr-shr n y 1, ← shr-shr n y 2, ← shr-shr n y 3, ← shr-shr n y 4) (five_of (n / 2 ^ y))

-- a live cell more in a column
pub live_below : (n y h : ℕ) → n < 2 ^ h → y < h → h ≤ 40 → bit_or n (1 * 2 ^ y % 2 ^ 64) < 2 ^ h
live_below n y h fits within most =
    let same : 1 * 2 ^ y % 2 ^ 64 ≡ 2 ^ y = one_shl y 64 (omega arith) in
    rw same (or_lt h n (2 ^ y) fits (pow_below y h within))

-- another column with the same limits
pub IsGrid-set : (height : ℕ) (columns : List ℕ) (i n : ℕ) → IsGrid (record { height = height; columns = columns }) → i < length columns → n < 2 ^ height → IsGrid (record { height = height; columns = slice_set columns i n })
IsGrid-set height columns i n grid there fits = record {
  width = rw (length-set columns i n) grid.width;
  height = grid.height;
  rows = λ x. elim (cases_eq x i) [
    | inl same ↦ rw (same, get_or-set_same columns i n 0 there) fits
    | inr other ↦ rw (get_or-set_other columns i x n 0 other) (grid.rows x)
  ];
}

-- the column with a live cell more
pub MakesLive-set : (height : ℕ) (columns : List ℕ) (x y : ℕ) → x < length columns → y < 64 → MakesLive (record { height = height; columns = columns }) (record { height = height; columns = slice_set columns x (bit_or (get_or columns x 0) (1 * 2 ^ y % 2 ^ 64)) }) x y
MakesLive-set height columns x y there within = record {
  width = length-set columns x _;
  height = refl;
  live = rw (get_or-set_same columns x (bit_or (get_or columns x 0) (1 * 2 ^ y % 2 ^ 64)) 0 there) (bit_at_set_same w64 (get_or columns x 0) y within);
  others = λ u v other. elim (cases_eq u x) [
    | inl same ↦ rw (same, get_or-set_same columns x (bit_or (get_or columns x 0) (1 * 2 ^ y % 2 ^ 64)) 0 there) (bit_at_set_other w64 (get_or columns x 0) y within v (λ e. other same e))
    | inr apart ↦ rw (get_or-set_other columns x u (bit_or (get_or columns x 0) (1 * 2 ^ y % 2 ^ 64)) 0 apart) refl
  ];
}

-- a box without live cells
pub IsGrid-dead : (height width : ℕ) (columns : List ℕ) → width ≤ 40 → height ≤ 40 → columns ≡ replicate width 0 → IsGrid (record { height = height; columns = columns })
IsGrid-dead height width columns narrow low dead = record {
  width = rw (dead, length-replicate {A = ℕ} width 0) narrow;
  height = low;
  rows = λ x. rw dead (elim (cases_lt x width) [
    | inl within ↦ rw (get_or-replicate {A = ℕ} width x 0 0 within) (pow_pos height)
    | inr east ↦ let cells : List ℕ = replicate width 0 in let past : length cells ≤ x = rw (length-replicate {A = ℕ} width 0) east in rw (get_or_past cells x 0 past) (pow_pos height)
  ]);
}

-- a column without cells has five dead ones anywhere
pub five_dead : (grid : GridCells) (x y : ℕ) → get_or grid.columns x 0 ≡ 0 → five_cells (cell grid) x y ≡ 0
five_dead grid x y none = rw (none, bit_at-zero y, bit_at-zero (y + 1), bit_at-zero (y + 2), bit_at-zero (y + 3), bit_at-zero (y + 4)) refl

-- a column that was read at an index
module _ (grid : GridCells) (height : ℕ) (columns : List ℕ) (n i x : ℕ) (view : record { height = height; columns = columns } ≡ grid) (index : i ≡ x) (read : n ≡ get_or columns i n) (there : x < length grid.columns) where
  same_columns : columns ≡ grid.columns
  same_columns = ap (λ (g : GridCells). g.columns) view

  within : i < length columns
  within = subst (λ (l : List ℕ). i < length l) (sym same_columns) (omega (arith, index, there))

  is_column : n ≡ get_or columns x 0
  is_column = read ∙ get_or_default_zero columns i n within ∙ ap (λ k. get_or columns k 0) index

  -- its five cells
  pub five_read : (y : ℕ) → n / 2 ^ y % 32 ≡ five_cells (cell grid) x y
  five_read y = subst (λ (g : GridCells). n / 2 ^ y % 32 ≡ five_cells (cell g) x y) view (subst (λ m. n / 2 ^ y % 32 ≡ bit_at m y + 2 * bit_at m (y + 1) + 4 * bit_at m (y + 2) + 8 * bit_at m (y + 3) + 16 * bit_at m (y + 4)) is_column (five_bits n y))

  -- it is written with a live cell more
  pub IsGrid-live : (y : ℕ) → IsGrid (record { height = height; columns = columns }) → y < grid.height → IsGrid (record { height = height; columns = slice_set columns i (bit_or n (1 * 2 ^ y % 2 ^ 64)) })
  IsGrid-live y is_grid above =
      let high : y < height = subst (λ (g : GridCells). y < g.height) (sym view) above in
      let fits : n < 2 ^ height = subst (λ m. m < 2 ^ height) (sym is_column) (is_grid.rows x) in
      IsGrid-set height columns i (bit_or n (1 * 2 ^ y % 2 ^ 64)) is_grid within (live_below n y height fits high is_grid.height)

  pub MakesLive-live : (y : ℕ) → IsGrid (record { height = height; columns = columns }) → y < grid.height → MakesLive grid (record { height = height; columns = slice_set columns i (bit_or n (1 * 2 ^ y % 2 ^ 64)) }) x y
  MakesLive-live y is_grid above =
      let high : y < height = subst (λ (g : GridCells). y < g.height) (sym view) above in
      let low : height ≤ 40 = is_grid.height in
      let there' : x < length columns = omega (arith, index, within) in
      subst (λ (g : GridCells). MakesLive g (record { height = height; columns = slice_set columns i (bit_or n (1 * 2 ^ y % 2 ^ 64)) }) x y) view
      (subst (λ k. MakesLive (record { height = height; columns = columns }) (record { height = height; columns = slice_set columns k (bit_or n (1 * 2 ^ y % 2 ^ 64)) }) x y) (sym index)
      (subst (λ m. MakesLive (record { height = height; columns = columns }) (record { height = height; columns = slice_set columns x (bit_or m (1 * 2 ^ y % 2 ^ 64)) }) x y) (sym is_column) (MakesLive-set height columns x y there' (omega (arith, high, low)))))
