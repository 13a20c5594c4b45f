-- Squares of words, and tiles, that show a plane from some place onwards (our own). A tile holds 16 by 16 cells of two
-- states: sixteen rows from the top, of which bit 0 is the western-most cell.
use Rattle.std.specs.Prelude.{◌≡◌, ℕ, ◌+◌, ◌-◌, ◌/◌, ◌%◌, ◌<◌, ◌≤◌, ℤ, pos, ◌+ℤ◌, List, nat_lt, if◌then◌else◌, slice_index}
use Rattle.ca_plane.specs.Prelude.{row_cells}
use Rattle.ca_bricks.specs.{Words.WordShows, Words.byte_of, Overlaps.QuartersShow}
use Rattle.ca_bricks.specs.declared.{word_square.WordSquare.WordSquare, wide_square.WideSquare.WideSquare}

-- the four words of a square of 16 by 16 cells show it
abbrev pub WordSquareShows : WordSquare → (ℤ → ℤ → ℕ) → ℤ → ℤ → Type 0
WordSquareShows words p a b = QuartersShow WordShows (pos 8) words.nw words.ne words.sw words.se p a b

-- the four quarters of a square of 32 by 32 cells show it
abbrev pub WideSquareShows : WideSquare → (ℤ → ℤ → ℕ) → ℤ → ℤ → Type 0
WideSquareShows wide p a b = QuartersShow WordSquareShows (pos 16) wide.nw wide.ne wide.sw wide.se p a b

-- the tile shows the plane from (a, b) onwards, but for `margin` rows and columns at each of its sides
pub record TileShows (rows : List ℕ) (margin : ℕ) (p : ℤ → ℤ → ℕ) (a b : ℤ) : Type 0 where
  pub looks : (x y : ℕ) → margin ≤ x → x + margin < 16 → margin ≤ y → y + margin < 16 → row_cells rows x y ≡ p (a +ℤ pos x) (b +ℤ pos y)

-- the bytes of two words, the lowest first
abbrev pub word_bytes_at : ℕ → ℕ → ℕ → ℕ
word_bytes_at north south place = if nat_lt place 8 then byte_of north place else byte_of south (place - 8)

-- the eight cells in the middle of a tile's row
abbrev pub inner_byte : List ℕ → ℕ → ℕ
inner_byte rows y = slice_index rows (4 + y) / 16 % 256
