-- Cells of two states in a box.
use Rattle.std.specs.Prelude.{◌≡◌, ℕ, ◌-◌, ◌^◌, ◌<◌, ◌≤◌, List, length, slice_index}
use Rattle.std.specs.Int.{bit_at}

-- the cells of a box: how high it is, and its columns from the west, each of them a binary number with the northern
-- cell as 1
pub record GridCells : Type 0 where
  pub height : ℕ
  pub columns : List ℕ

-- the state of a cell, whose column is counted from the west and whose row from the north: 1 where it is live, and
-- else 0, as outside the box
abbrev pub cell : GridCells → ℕ → ℕ → ℕ
cell grid x y = bit_at (slice_index grid.columns x) y

-- the box is at most 40 by 40 (apgsearch names no larger one by its cells), and no column is higher than it
pub record IsGrid (grid : GridCells) : Type 0 where
  pub width : length grid.columns ≤ 40
  pub height : grid.height ≤ 40
  pub rows : (x : ℕ) → slice_index grid.columns x < 2 ^ grid.height

-- the one cell is live now, and every other one and the box are as before
pub record MakesLive (old new : GridCells) (x y : ℕ) : Type 0 where
  pub width : length new.columns ≡ length old.columns
  pub height : new.height ≡ old.height
  pub live : cell new x y ≡ 1
  pub others : (u v : ℕ) → (u ≡ x → v ≡ y → ⊥) → cell new u v ≡ cell old u v

-- the box is the smallest one round the live cells: one of them is in each of its outermost columns and rows
pub record IsLeastGrid (grid : GridCells) : Type 0 where
  pub west : (y : ℕ) × (cell grid 0 y ≡ 1)
  pub east : (y : ℕ) × (cell grid (length grid.columns - 1) y ≡ 1)
  pub north : (x : ℕ) × (cell grid x 0 ≡ 1)
  pub south : (x : ℕ) × (cell grid x (grid.height - 1) ≡ 1)

-- the box has just the cells of these columns, and is a smallest one
pub record IsLeastOf (columns : List ℕ) (grid : GridCells) : Type 0 where
  pub is_grid : IsGrid grid
  pub is_least : IsLeastGrid grid
  pub same : (x : ℕ) → slice_index grid.columns x ≡ slice_index columns x
