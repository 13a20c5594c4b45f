-- Columns of cells the other way up.
use Rattle.std.proofs.Common.{◌≡◌, ℕ, zero, suc, ◌+◌, ◌-◌, ◌*◌, ◌/◌, ◌%◌, ◌^◌, ◌<◌, ◌≤◌, max, List, length, get_or, refl, sym, ap, subst, ◌∙◌, inl, inr, arith}
use Rattle.std.specs.Int.{bit_at, reverse_bits_onto}
use Rattle.std.proofs.lemmas.Bool.{cases_lt}
use Rattle.std.proofs.lemmas.List.{get_or_past}
use Rattle.std.proofs.lemmas.Nat.{pow_pos, shr-shr, shr_below}
use Rattle.std.proofs.lemmas.Nat.Bits.{bit_at_lowest, bit_at-suc, bit_at-zero}
use Rattle.ca_apgcode.specs.Prelude.{GridCells, IsGrid, cell}
use Rattle.ca_apgcode.specs.inner.Turned.{IsFlipped}

-- ---- bits the other way round

above : (k n a i : ℕ) → k ≤ i → bit_at (reverse_bits_onto k n a) i ≡ bit_at a (i - k)
unfolding reverse_bits_onto
above zero n a i high = let same : i ≡ i - 0 = omega arith in ap (bit_at a) same
above (suc k) n a i high =
    let m = a * 2 + n % 2 in
    let next : i - k ≡ suc (i - suc k) = omega (arith, high) in
    let half : m / 2 ≡ a = omega arith in
    above k (n / 2) m i (omega (arith, high)) ∙ (ap (bit_at m) next ∙ (bit_at-suc m (i - suc k) ∙ ap (λ q. bit_at q (i - suc k)) half))

below : (k n a i : ℕ) → i < k → bit_at (reverse_bits_onto k n a) i ≡ bit_at n (k - 1 - i)
unfolding reverse_bits_onto
below zero n a i low = absurd (omega (arith, low))
below (suc k) n a i low = elim (cases_lt i k) [
  | inl before ↦
      let next : suc k - 1 - i ≡ suc (k - 1 - i) = omega (arith, before) in
      below k (n / 2) (a * 2 + n % 2) i before ∙ (sym (bit_at-suc n (k - 1 - i)) ∙ ap (bit_at n) (sym next))
  | inr last ↦
      let m = a * 2 + n % 2 in
      let none : i - k ≡ 0 = omega (arith, low, last) in
      let first : suc k - 1 - i ≡ 0 = omega (arith, low, last) in
      let odd : m % 2 ≡ n % 2 = omega arith in
      above k (n / 2) m i last ∙ (ap (bit_at m) none ∙ (bit_at_lowest m ∙ (odd ∙ (sym (bit_at_lowest n) ∙ ap (bit_at n) (sym first)))))
]

-- a column of such a height
pub flipped_cells : (column height y : ℕ) → height ≤ 40 → y < height → bit_at (reverse_bits_onto 64 column 0 / 2 ^ (64 - max height 1)) y ≡ bit_at column (height - 1 - y)
flipped_cells column height y low within =
    let way = 64 - max height 1 in
    let place : way + y < 64 = omega (arith, low, within) in
    let same : 64 - 1 - (way + y) ≡ height - 1 - y = omega (arith, low, within) in
    ap (λ q. q % 2) (shr-shr (reverse_bits_onto 64 column 0) way y) ∙ (below 64 column 0 (way + y) place ∙ ap (bit_at column) same)

none_reversed : (k : ℕ) → reverse_bits_onto k 0 0 ≡ 0
unfolding reverse_bits_onto
none_reversed zero = refl
none_reversed (suc k) = none_reversed k

pub flipped_low : (column height : ℕ) → height ≤ 40 → column < 2 ^ height → reverse_bits_onto 64 column 0 < 2 ^ 64 → reverse_bits_onto 64 column 0 / 2 ^ (64 - max height 1) < 2 ^ height
flipped_low column zero low fits word =
    let none : column ≡ 0 = omega (arith, fits) in
    rw (none, none_reversed 64) (omega arith)
flipped_low column (suc height) low fits word =
    let all : suc height + (64 - max (suc height) 1) ≡ 64 = omega (arith, low) in
    shr_below (reverse_bits_onto 64 column 0) (suc height) (64 - max (suc height) 1) (subst (λ k. reverse_bits_onto 64 column 0 < 2 ^ k) (sym all) word)

-- ---- all columns

-- the first columns are the other way up
pub record AreFlipped (grid : GridCells) (count : ℕ) (columns : List ℕ) : Type 0 where
  pub size : length columns ≡ count
  pub cells : (k : ℕ) → k < count → (y : ℕ) → y < grid.height → bit_at (get_or columns k 0) y ≡ cell grid k (grid.height - 1 - y)
  pub low : (k : ℕ) → k < count → get_or columns k 0 < 2 ^ grid.height

pub IsFlipped-all : (grid : GridCells) (columns : List ℕ) → IsGrid grid → AreFlipped grid (length grid.columns) columns → IsFlipped grid (record { height = grid.height; columns = columns })
IsFlipped-all grid columns is_grid all =
    let size = all.size in
    let past = λ (k : ℕ) (east : length grid.columns ≤ k). get_or_past columns k 0 (omega (arith, size, east)) in
    record {
      is_grid = record {
        width = omega (arith, size, is_grid.width);
        height = is_grid.height;
        rows = λ k. elim (cases_lt k (length grid.columns)) [
          | inl within ↦ all.low k within
          | inr east ↦ subst (λ n. n < 2 ^ grid.height) (sym (past k east)) (pow_pos grid.height)
        ];
      };
      width = size;
      height = refl;
      cells = λ k y within. elim (cases_lt k (length grid.columns)) [
        | inl inside ↦ all.cells k inside y within
        | inr east ↦
            ap (λ n. bit_at n y) (past k east)
            ∙ (bit_at-zero y ∙ sym (ap (λ n. bit_at n (grid.height - 1 - y)) (get_or_past grid.columns k 0 east) ∙ bit_at-zero (grid.height - 1 - y)))
      ];
    }
