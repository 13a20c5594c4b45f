-- Words of cells of two states that are gathered into squares.
use Rattle.std.specs.Prelude.{◌≡◌, ℕ, ◌+◌, ◌*◌, ◌<◌, max, ℤ, ◌⊎◌, pos, ◌+ℤ◌, ◌≤ℤ◌, List, [], ◌∷◌}
use Rattle.std.specs.Int.{bit_at}
use Rattle.ca_plane.specs.declared.{bit_plane.CellWord.CellWord, point.Bounds.Bounds}
use Rattle.ca_plane.specs.Prelude.{bit_cell, reach, row_cells}
use Rattle.ca_quad.specs.declared.{store.quarters.Quarters.Quarters, store.to_plane.Corners.Corners, tree.Spot.Spot}
use Rattle.ca_quad.specs.inner.Filled.{cells_from}

-- the cells of one word
abbrev pub cells_of_word : CellWord → Spot → ℕ → ℕ → ℕ
cells_of_word word at = cells_from (bit_cell (word ∷ [])) at

-- the part has the cells that the words have in the square of this side
pub record HaveCells (words part : List CellWord) (at : Spot) (side : ℕ) : Type 0 where
  pub same : (x y : ℕ) → x < side → y < side → cells_from (bit_cell part) at x y ≡ cells_from (bit_cell words) at x y

-- the same for the four parts of a square
pub record AreWordQuarters (words : List CellWord) (at : Spot) (corners : Corners) (side : ℕ) (parts : Quarters CellWord) : Type 0 where
  pub nw : HaveCells words parts.nw.items at side
  pub ne : HaveCells words parts.ne.items corners.ne side
  pub sw : HaveCells words parts.sw.items corners.sw side
  pub se : HaveCells words parts.se.items corners.se side

-- `length` places from `first` onwards, counted from the corner of a plane, and `side` places from the coordinate `at`
-- onwards have none in common
abbrev pub AreApart : ℕ → ℕ → ℤ → ℕ → Type 0
AreApart first length at side = (pos (first + length) ≤ℤ (at +ℤ reach)) ⊎ (((at +ℤ pos side) +ℤ reach) ≤ℤ pos first)

-- no cell of the word lies in the square of this side
pub record HasNoCell (word : CellWord) (at : Spot) (side : ℕ) : Type 0 where
  pub dead : (x y : ℕ) → x < side → y < side → cells_of_word word at x y ≡ 0

-- the 64 cells of the word
pub record IsBoxOfWord (word : CellWord) (box : Bounds) : Type 0 where
  pub x0 : box.x0 +ℤ reach ≡ pos (64 * word.column)
  pub x1 : box.x1 ≡ box.x0 +ℤ pos 63
  pub y0 : box.y0 +ℤ reach ≡ pos word.row
  pub y1 : box.y1 ≡ box.y0

-- the cells of the word are live in the rows besides those that were
pub record AddsCells (word : CellWord) (at : Spot) (old new : List ℕ) : Type 0 where
  pub adds : (x y : ℕ) → x < 64 → y < 64 → row_cells new x y ≡ max (cells_of_word word at x y) (row_cells old x y)

-- bits that are moved so far to the east: those that leave the word are lost
pub record AreShiftedBits (bits : ℕ) (way : ℤ) (moved : ℕ) : Type 0 where
  pub here : (i k : ℕ) → i < 64 → k < 64 → pos i ≡ way +ℤ pos k → bit_at moved i ≡ bit_at bits k
  pub empty : (i : ℕ) → i < 64 → ((k : ℕ) → k < 64 → pos i ≡ way +ℤ pos k → ⊥) → bit_at moved i ≡ 0
