-- Runs of live cells, word by word.
use Rattle.std.specs.Prelude.{◌≡◌, ℕ, ◌<◌, ◌≤◌, max, List, length, slice_index_or}
use Rattle.std.specs.Int.{bit_at}
use Rattle.ca_plane.specs.declared.bit_plane.CellWord.{CellWord}
use Rattle.ca_plane.specs.BitPlane.{word_state, state_of_words}

-- the cells of a word are live besides those of old
abbrev pub AddsWord : CellWord → List CellWord → List CellWord → Type 0
AddsWord word old new = (column row : ℕ) → state_of_words new column row ≡ max (word_state word column row) (state_of_words old column row)

-- the words are of the same cells
pub record HaveSameCells (word other : CellWord) : Type 0 where
  pub row : word.row ≡ other.row
  pub column : word.column ≡ other.column

-- there is a word of the same cells at the place
pub record IsPlaceOf (word : CellWord) (words : List CellWord) (place : ℕ) : Type 0 where
  pub below : place < length words
  pub same : (none : CellWord) → HaveSameCells (slice_index_or words place none) word

-- the bits from `first` onwards, below the end, are 1, and no others
pub record AreBitsOf (bits first end : ℕ) : Type 0 where
  pub within : (b : ℕ) → first ≤ b → b < end → bit_at bits b ≡ 1
  pub outside : (b : ℕ) → (first ≤ b → b < end → ⊥) → bit_at bits b ≡ 0

-- a cell of the row from column `first` onwards, below the end, is live, and no other
pub record IsWordOfRun (word : CellWord) (row first end : ℕ) : Type 0 where
  pub is_row : word.row ≡ row
  pub within : (column : ℕ) → first ≤ column → column < end → word_state word column row ≡ 1
  pub outside : (column other : ℕ) → (other ≡ row → first ≤ column → column < end → ⊥) → word_state word column other ≡ 0

-- the cells of the row from column `first` onwards, below the end, are live, and every other cell is as it was
pub record AddsColumns (row first end : ℕ) (old new : List CellWord) : Type 0 where
  pub within : (column : ℕ) → first ≤ column → column < end → state_of_words new column row ≡ 1
  pub outside : (column other : ℕ) → (other ≡ row → first ≤ column → column < end → ⊥) → state_of_words new column other ≡ state_of_words old column other
