-- Rows of cells as numbers.
use Rattle.std.proofs.Common.{◌≡◌, ◌≢◌, ℕ, ◌+◌, ◌-◌, ◌*◌, ◌%◌, ◌^◌, ◌<◌, List, [], ◌∷◌, ◌++◌, length, get_or, reverse, bit_or, Bool, true, false, IsTrue, ◌↔◌, refl, sym, ap, subst, ◌∙◌, inl, inr, arith}
use Rattle.std.specs.Int.{bit_at, w64}
use mir.Val.{bool_byte}
use Rattle.std.proofs.lemmas.Bool.{cases_lt, cases_eq, false≢true}
use Rattle.std.proofs.lemmas.List.{get_or_past, get_or_push, get_or_append_left, length_push, get_or-reverse, length-reverse}
use Rattle.std.proofs.lemmas.Nat.{pow_pos, pow_below}
use Rattle.std.proofs.lemmas.Nat.Bits.{bit_at_set_same, bit_at_set_other, bit_at_above, bit_at_or, bit_at-lt, bit_at-zero, same_from_bits}
use Rattle.ca_apgcode.specs.Prelude.{GridCells, IsGrid, cell}
use Rattle.ca_apgcode.specs.inner.Turned.{IsMirrored, IsTransposed}
use Rattle.ca_apgcode.proofs.Columns.{live_below}

-- the number has the cells of the row in the first columns
pub record IsRowUpTo (grid : GridCells) (y x row : ℕ) : Type 0 where
  pub cells : (k : ℕ) → k < x → bit_at row k ≡ cell grid k y
  pub low : row < 2 ^ x

pub IsRowUpTo-none : (grid : GridCells) (y : ℕ) → IsRowUpTo grid y 0 0
IsRowUpTo-none grid y = record { cells = λ k below. absurd (omega (arith, below)); low = omega arith }

-- a power of two is less than the next one
pow_next : (n x : ℕ) → n < 2 ^ x → n < 2 ^ (x + 1)
pow_next n x low = omega (arith, low, pow_below x (x + 1) (omega arith))

-- one column more, with a live cell or a dead one
pub IsRowUpTo-live : (grid : GridCells) (y x row : ℕ) → x < 40 → cell grid x y ≡ 1 → IsRowUpTo grid y x row → IsRowUpTo grid y (x + 1) (bit_or row (1 * 2 ^ x % 2 ^ 64))
IsRowUpTo-live grid y x row narrow live is = record {
  cells = λ k below. elim (cases_eq k x) [
    | inl same ↦ subst (λ i. bit_at (bit_or row (1 * 2 ^ x % 2 ^ 64)) i ≡ cell grid i y) (sym same) (bit_at_set_same w64 row x (omega (arith, narrow)) ∙ sym live)
    | inr other ↦ bit_at_set_other w64 row x (omega (arith, narrow)) k other ∙ is.cells k (omega (arith, below, other))
  ];
  low = live_below row x (x + 1) (pow_next row x is.low) (omega arith) (omega (arith, narrow));
}

pub IsRowUpTo-dead : (grid : GridCells) (y x row : ℕ) → (cell grid x y ≢ 1) → IsRowUpTo grid y x row → IsRowUpTo grid y (x + 1) row
IsRowUpTo-dead grid y x row dead is = record {
  cells = λ k below. elim (cases_eq k x) [
    | inl same ↦
        let none : cell grid x y ≡ 0 = omega (arith, dead, bit_at-lt (get_or grid.columns x 0) y) in
        subst (λ i. bit_at row i ≡ cell grid i y) (sym same) (bit_at_above row x x is.low (omega arith) ∙ sym none)
    | inr other ↦ is.cells k (omega (arith, below, other))
  ];
  low = pow_next row x is.low;
}

-- with the bit of its cell
pub IsRowUpTo-bit : (grid : GridCells) (y x row n : ℕ) → x < 40 → n ≡ cell grid x y → IsRowUpTo grid y x row → IsRowUpTo grid y (x + 1) (bit_or row (n * 2 ^ x % 2 ^ 64))
IsRowUpTo-bit grid y x row n narrow bit is = elim (cases_eq n 1) [
  | inl one ↦ rw one (IsRowUpTo-live grid y x row narrow (sym bit ∙ one) is)
  | inr other ↦
      let none : n ≡ 0 = let below = bit_at-lt (get_or grid.columns x 0) y in omega (arith, other, bit, below) in
      rw (none, or_none row) (IsRowUpTo-dead grid y x row (λ one. other (bit ∙ one)) is)
]
  where
    or_none : (m : ℕ) → bit_or m (0 * 2 ^ x % 2 ^ 64) ≡ m
    or_none m =
        let none : 0 * 2 ^ x % 2 ^ 64 ≡ 0 = omega arith in
        same_from_bits (bit_or m (0 * 2 ^ x % 2 ^ 64)) m (λ i. ap (λ k. bit_at (bit_or m k) i) none ∙ (bit_at_or m 0 i ∙ (let dead = bit_at-zero i in omega (arith, dead))))

-- whether a cell is live as a number
pub bit_of : (grid : GridCells) (x y : ℕ) (live : Bool) → IsTrue live ↔ (cell grid x y ≡ 1) → bool_byte live ≡ cell grid x y
bit_of grid x y true is = sym (is.0 refl)
bit_of grid x y false is = let below = bit_at-lt (get_or grid.columns x 0) y in let not : cell grid x y ≢ 1 = λ one. false≢true (is.1 one) in omega (arith, below, not)

-- a whole row
pub row_cells : (grid : GridCells) (y row : ℕ) → IsRowUpTo grid y (length grid.columns) row → (x : ℕ) → bit_at row x ≡ cell grid x y
row_cells grid y row is x = elim (cases_lt x (length grid.columns)) [
  | inl within ↦ is.cells x within
  | inr east ↦
      bit_at_above row (length grid.columns) x is.low east ∙ sym (ap (λ n. bit_at n y) (get_or_past grid.columns x 0 east) ∙ none y)
]
  where
    none : (y : ℕ) → bit_at 0 y ≡ 0
    none y = bit_at_above 0 0 y (omega arith) (omega arith)

-- the first rows as columns
pub record AreRows (grid : GridCells) (count : ℕ) (columns : List ℕ) : Type 0 where
  pub size : length columns ≡ count
  pub cells : (k : ℕ) → k < count → (x : ℕ) → bit_at (get_or columns k 0) x ≡ cell grid x k
  pub low : (k : ℕ) → k < count → get_or columns k 0 < 2 ^ length grid.columns

pub AreRows-none : (grid : GridCells) (columns : List ℕ) → columns ≡ [] → AreRows grid 0 columns
AreRows-none grid columns none = record { size = ap length none; cells = λ k below. absurd (omega (arith, below)); low = λ k below. absurd (omega (arith, below)) }

pub AreRows-more : (grid : GridCells) (count row : ℕ) (columns new : List ℕ) → new ≡ columns ++ row ∷ [] → ((x : ℕ) → bit_at row x ≡ cell grid x count) → row < 2 ^ length grid.columns → AreRows grid count columns → AreRows grid (count + 1) new
AreRows-more grid count row columns new is cells low rows = subst (AreRows grid (count + 1)) (sym is) (record {
  size = let size = rows.size in omega (arith, length_push columns row, size);
  cells = λ k below x. elim (cases_eq k count) [
    | inl same ↦ ap (λ n. bit_at n x) (at k same) ∙ (cells x ∙ ap (cell grid x) (sym same))
    | inr other ↦ ap (λ n. bit_at n x) (before k (omega (arith, below, other))) ∙ rows.cells k (omega (arith, below, other)) x
  ];
  low = λ k below. elim (cases_eq k count) [
    | inl same ↦ subst (λ n. n < 2 ^ length grid.columns) (sym (at k same)) low
    | inr other ↦ subst (λ n. n < 2 ^ length grid.columns) (sym (before k (omega (arith, below, other)))) (rows.low k (omega (arith, below, other)))
  ];
})
  where
    at : (k : ℕ) → k ≡ count → get_or (columns ++ row ∷ []) k 0 ≡ row
    at k same = get_or_push columns row 0 k (rows.size ∙ sym same)

    before : (k : ℕ) → k < count → get_or (columns ++ row ∷ []) k 0 ≡ get_or columns k 0
    before k below = get_or_append_left columns (row ∷ []) 0 k (let size = rows.size in omega (arith, size, below))

-- all of them
pub IsTransposed-rows : (grid : GridCells) (columns : List ℕ) → IsGrid grid → AreRows grid grid.height columns → IsTransposed grid (record { height = length grid.columns; columns = columns })
IsTransposed-rows grid columns is_grid rows =
    let size = rows.size in
    record {
      is_grid = record {
        width = omega (arith, size, is_grid.height);
        height = is_grid.width;
        rows = λ k. elim (cases_lt k grid.height) [
          | inl within ↦ rows.low k within
          | inr past ↦ subst (λ n. n < 2 ^ length grid.columns) (sym (get_or_past columns k 0 (omega (arith, size, past)))) (pow_pos (length grid.columns))
        ];
      };
      width = size;
      height = refl;
      cells = λ k x. elim (cases_lt k grid.height) [
        | inl within ↦ rows.cells k within x
        | inr past ↦
            let none : bit_at (get_or columns k 0) x ≡ 0 = ap (λ n. bit_at n x) (get_or_past columns k 0 (omega (arith, size, past))) ∙ bit_at_above 0 0 x (omega arith) (omega arith) in
            none ∙ sym (bit_at_above (get_or grid.columns x 0) grid.height k (is_grid.rows x) past)
      ];
    }

-- columns the other way round
pub IsMirrored-reverse : (grid : GridCells) (columns : List ℕ) → IsGrid grid → columns ≡ reverse grid.columns → IsMirrored grid (record { height = grid.height; columns = columns })
IsMirrored-reverse grid columns is_grid is =
    let size : length columns ≡ length grid.columns = ap length is ∙ length-reverse grid.columns in
    let place = λ (k : ℕ) (within : k < length grid.columns). ap (λ l. get_or l k 0) is ∙ get_or-reverse grid.columns k 0 within in
    record {
      is_grid = record {
        width = omega (arith, size, is_grid.width);
        height = is_grid.height;
        rows = λ k. elim (cases_lt k (length grid.columns)) [
          | inl within ↦ subst (λ n. n < 2 ^ grid.height) (sym (place k within)) (is_grid.rows (length grid.columns - 1 - k))
          | inr past ↦ subst (λ n. n < 2 ^ grid.height) (sym (get_or_past columns k 0 (omega (arith, size, past)))) (pow_pos grid.height)
        ];
      };
      width = size;
      height = refl;
      cells = λ k y within. ap (λ n. bit_at n y) (place k within);
    }
