-- Cells of a grid that are drawn column by column.
use Rattle.std.specs.Prelude.{◌≡◌, ℕ, ◌<◌, ◌≤◌, ℤ, pos, negsuc, List}
use Rattle.ca_plane.specs.declared.bit_plane.CellWord.{CellWord}
use Rattle.ca_plane.specs.Prelude.{bit_cell, from_corner}
use Rattle.ca_apgcode.specs.Prelude.{GridCells, cell, IsCode}

-- the cells of the columns before one are drawn, and those of this one above a row; nothing else is live
pub record IsDrawnTo (cells : ℕ → ℕ → ℕ) (column row : ℕ) (words : List CellWord) : Type 0 where
  pub before : (x y : ℕ) → x < column → bit_cell words (pos x) (pos y) ≡ cells x y
  pub above : (y : ℕ) → y < row → bit_cell words (pos column) (pos y) ≡ cells column y
  pub below : (y : ℕ) → row ≤ y → bit_cell words (pos column) (pos y) ≡ 0
  pub later : (x y : ℕ) → column < x → bit_cell words (pos x) (pos y) ≡ 0
  pub north : (x y : ℕ) → bit_cell words (pos x) (negsuc y) ≡ 0
  pub west : (x : ℕ) (y : ℤ) → bit_cell words (negsuc x) y ≡ 0

-- these are the cells of a representation, from (0, 0)
pub record IsCodeCells (text : List ℕ) (words : List CellWord) : Type 0 where
  pub box : GridCells
  pub is_code : IsCode box text
  pub cells_are : (x y : ℤ) → bit_cell words x y ≡ from_corner (cell box) x y
