-- Planes of two states, whose cells are kept 64 to a word (our own).
use Rattle.std.specs.Prelude.{◌≡◌, ℕ, ◌/◌, ◌%◌, ◌<◌, ◌≤◌, ◌^◌, max, ℤ, pos, negsuc, ◌+ℤ◌, List, [], ◌∷◌, ◌==◌, ◌&&◌, if◌then◌else◌}
use Rattle.std.specs.Int.{bit_at}
use Rattle.std.specs.List.{All}
use Rattle.ca_plane.specs.declared.{bit_plane.CellWord.CellWord, point.Point.Point}
use Rattle.ca_plane.specs.Limits.{reach}

-- what a word tells of the cell in a column and a row, both counted from the corner: bit b of the word is the cell in column 64 * w + b, where the word lies in column w of its row
abbrev pub word_state : CellWord → ℕ → ℕ → ℕ
word_state word column row = if row == word.row && column / 64 == word.column then bit_at word.bits (column % 64) else 0

-- a cell is live where one of the words tells that it is
abbrev pub state_of_words : List CellWord → ℕ → ℕ → ℕ
state_of_words [] column row = 0
state_of_words (word ∷ words) column row = max (word_state word column row) (state_of_words words column row)

-- the same at any distance from the corner: nothing is live to its west and its north
abbrev pub state_from_corner : List CellWord → ℤ → ℤ → ℕ
state_from_corner words (pos column) (pos row) = state_of_words words column row
state_from_corner words (pos column) (negsuc row) = 0
state_from_corner words (negsuc column) row = 0

-- the state of the cell at (x, y): the corner is (-2^62, -2^62), that of the square in which planes keep their cells
abbrev pub bit_cell : List CellWord → ℤ → ℤ → ℕ
bit_cell words x y = state_from_corner words (x +ℤ reach) (y +ℤ reach)

-- the cells of a run from a point to the east are live, and every other cell is as it was
pub record AddsRun (first : Point) (length : ℕ) (old new : List CellWord) : Type 0 where
  pub run : (n : ℕ) → n < length → bit_cell new (first.x +ℤ pos n) first.y ≡ 1
  pub other : (x y : ℤ) → ((n : ℕ) → n < length → x ≡ first.x +ℤ pos n → y ≡ first.y → ⊥) → bit_cell new x y ≡ bit_cell old x y

-- a first part of the run is made live, maybe none of it and never all, and every other cell is as it was
abbrev pub AddsPartOfRun : Point → ℕ → (old new : List CellWord) → Type 0
AddsPartOfRun first length old new = (some : ℕ) × (some < length) × AddsRun first some old new

-- how many columns, and how many rows, the square has from its corner to its far edge: twice the reach
abbrev pub plane_side : ℕ
plane_side = 2 ^ 63

-- the word lies in the square in which planes keep their cells, or reaches over its border by less than 64 cells
pub record IsNearWord (word : CellWord) : Type 0 where
  pub row : word.row ≤ plane_side
  pub column : word.column ≤ plane_side / 64

-- all words do
abbrev pub AreNearWords : List CellWord → Type 0
AreNearWords = All IsNearWord
