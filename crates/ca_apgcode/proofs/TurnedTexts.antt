-- Texts of planes in each orientation, from a box that is seen from its sides.
use Rattle.std.proofs.Common.{◌≡◌, ℕ, zero, suc, ◌+◌, ◌-◌, ◌*◌, ◌%◌, ◌^◌, ◌<◌, ◌≤◌, List, [], ◌∷◌, ◌++◌, length, reverse, bit_or, refl, ap, subst, ◌∙◌, ℤ, arith}
use Rattle.ca_apgcode.specs.Prelude.{GridCells, IsGrid, cell, IsBoxRound, IsTextOf, IsTurnedText, turned}
use Rattle.ca_apgcode.specs.declared.orientation.Orientation.TheVariants.{Upright, QuarterTurn, HalfTurn, ThreeQuarterTurn, EastWest, NorthSouth, Diagonal, Antidiagonal}
use Rattle.ca_apgcode.specs.declared.sides.Side.{Side}
use Rattle.ca_apgcode.specs.declared.sides.Side.TheVariants.{North, South, West, East}
use Rattle.ca_apgcode.specs.inner.Turned.{IsMirrored, IsFlipped, IsTransposed}
use Rattle.ca_apgcode.specs.inner.Sides.{IsSeenFrom, HasLongTexts}
use Rattle.ca_apgcode.proofs.RowBits.{IsRowUpTo, IsRowUpTo-none, IsRowUpTo-bit, row_cells, AreRows, AreRows-none, AreRows-more, IsTransposed-rows, IsMirrored-reverse}
use Rattle.ca_apgcode.proofs.PlaneBoxes.{one_box}
use Rattle.ca_apgcode.proofs.TurnedBoxes.{IsBoxRound-mirrored, IsBoxRound-flipped, IsBoxRound-transposed}

-- ---- boxes in other orientations

-- each box has one with east and west exchanged
mirrored_of : (grid : GridCells) → IsGrid grid → (other : GridCells) × IsMirrored grid other
mirrored_of grid is_grid = (record { height = grid.height; columns = reverse grid.columns }, IsMirrored-reverse grid (reverse grid.columns) is_grid refl)

-- a row of it is a number
some_row : (grid : GridCells) (y x : ℕ) → x ≤ 40 → (row : ℕ) × IsRowUpTo grid y x row
some_row grid y zero few = (0, IsRowUpTo-none grid y)
some_row grid y (suc x) few =
    let before = some_row grid y x (omega (arith, few)) in
    let next : x + 1 ≡ suc x = omega arith in
    let bit = cell grid x y in
    let row = bit_or before.0 (bit * 2 ^ x % 2 ^ 64) in
    (row, subst (λ k. IsRowUpTo grid y k row) next (IsRowUpTo-bit grid y x before.0 bit (omega (arith, few)) refl before.1))

some_rows : (grid : GridCells) (count : ℕ) → length grid.columns ≤ 40 → (columns : List ℕ) × AreRows grid count columns
some_rows grid zero narrow = ([], AreRows-none grid [] refl)
some_rows grid (suc count) narrow =
    let before = some_rows grid count narrow in
    let next : count + 1 ≡ suc count = omega arith in
    let row = some_row grid count (length grid.columns) narrow in
    let columns = before.0 ++ row.0 ∷ [] in
    (columns, subst (λ k. AreRows grid k columns) next (AreRows-more grid count row.0 before.0 columns refl (row_cells grid count row.0 row.1) row.1.low before.1))

-- and one with columns for rows
transposed_of : (grid : GridCells) → IsGrid grid → (other : GridCells) × IsTransposed grid other
transposed_of grid is_grid =
    let rows = some_rows grid grid.height is_grid.width in
    (record { height = length grid.columns; columns = rows.0 }, IsTransposed-rows grid rows.0 is_grid rows.1)

-- and one with north and south exchanged
flipped_of : (grid : GridCells) → IsGrid grid → (other : GridCells) × IsFlipped grid other
flipped_of grid is_grid =
    let one = transposed_of grid is_grid in
    let two = mirrored_of one.0 one.1.is_grid in
    let three = transposed_of two.0 two.1.is_grid in
    let width : length one.0.columns ≡ grid.height = one.1.width in (
      three.0,
      record {
        is_grid = three.1.is_grid;
        width = three.1.width ∙ (two.1.height ∙ one.1.height);
        height = three.1.height ∙ (two.1.width ∙ one.1.width);
        cells = λ x y within.
            three.1.cells x y ∙ (two.1.cells y x (omega (arith, within, width)) ∙ (one.1.cells (length one.0.columns - 1 - y) x ∙ ap (λ w. cell grid x (w - 1 - y)) width));
      },
    )

-- ---- texts in all orientations

-- the box round a plane has long texts, where one box has them
long_text_of : (p : ℤ → ℤ → ℕ) (box : GridCells) (most : ℕ) (text : List ℕ) → IsBoxRound p box → HasLongTexts most box → IsTextOf p text → most < length text
long_text_of p box most text round long is = subst (HasLongTexts most) (one_box p box is.0 round is.1) long text is.2

-- the texts are long of a box as it is seen from a side, and with east and west exchanged besides
pub record AreLongFrom (side : Side) (grid : GridCells) (most : ℕ) : Type 0 where
  pub seen : (box : GridCells) → IsSeenFrom side grid box → HasLongTexts most box
  pub mirrored : (box other : GridCells) → IsSeenFrom side grid box → IsMirrored box other → HasLongTexts most other

-- all texts of a plane are long where they are from each side
module _ (p : ℤ → ℤ → ℕ) (grid : GridCells) (most : ℕ) (round : IsBoxRound p grid)
    (north : AreLongFrom North grid most) (south : AreLongFrom South grid most) (west : AreLongFrom West grid most) (east : AreLongFrom East grid most) where
  pub long_in_all : (text : List ℕ) → IsTurnedText p text → most < length text
  long_in_all text (Upright, is) = long_text_of p grid most text round (north.seen grid refl) is
  long_in_all text (EastWest, is) =
      let m = mirrored_of grid round.is_grid in
      long_text_of (turned EastWest p) m.0 most text (IsBoxRound-mirrored p grid m.0 m.1 round) (north.mirrored grid m.0 refl m.1) is
  long_in_all text (NorthSouth, is) =
      let f = flipped_of grid round.is_grid in
      long_text_of (turned NorthSouth p) f.0 most text (IsBoxRound-flipped p grid f.0 f.1 round) (south.seen f.0 f.1) is
  long_in_all text (HalfTurn, is) =
      let f = flipped_of grid round.is_grid in
      let m = mirrored_of f.0 f.1.is_grid in
      long_text_of (turned HalfTurn p) m.0 most text (IsBoxRound-mirrored (turned NorthSouth p) f.0 m.0 m.1 (IsBoxRound-flipped p grid f.0 f.1 round)) (south.mirrored f.0 m.0 f.1 m.1) is
  long_in_all text (Diagonal, is) =
      let t = transposed_of grid round.is_grid in
      long_text_of (turned Diagonal p) t.0 most text (IsBoxRound-transposed p grid t.0 t.1 round) (west.seen t.0 t.1) is
  long_in_all text (QuarterTurn, is) =
      let t = transposed_of grid round.is_grid in
      let m = mirrored_of t.0 t.1.is_grid in
      long_text_of (turned QuarterTurn p) m.0 most text (IsBoxRound-mirrored (turned Diagonal p) t.0 m.0 m.1 (IsBoxRound-transposed p grid t.0 t.1 round)) (west.mirrored t.0 m.0 t.1 m.1) is
  long_in_all text (ThreeQuarterTurn, is) =
      let e = mirrored_of grid round.is_grid in
      let t = transposed_of e.0 e.1.is_grid in
      long_text_of (turned ThreeQuarterTurn p) t.0 most text (IsBoxRound-transposed (turned EastWest p) e.0 t.0 t.1 (IsBoxRound-mirrored p grid e.0 e.1 round)) (east.seen t.0 (e.0, e.1, t.1)) is
  long_in_all text (Antidiagonal, is) =
      let e = mirrored_of grid round.is_grid in
      let t = transposed_of e.0 e.1.is_grid in
      let m = mirrored_of t.0 t.1.is_grid in
      long_text_of (turned Antidiagonal p) m.0 most text
      (IsBoxRound-mirrored (turned ThreeQuarterTurn p) t.0 m.0 m.1 (IsBoxRound-transposed (turned EastWest p) e.0 t.0 t.1 (IsBoxRound-mirrored p grid e.0 e.1 round)))
      (east.mirrored t.0 m.0 (e.0, e.1, t.1) m.1) is
