-- Boxes that are seen from one of their sides, and strips of them as numbers.
use Rattle.std.specs.Prelude.{◌≡◌, ℕ, zero, suc, ◌+◌, ◌<◌, ◌≤◌, ◌==◌, if◌then◌else◌, List, length, bit_and, bit_or, bit_xor, count_ones}
use Rattle.std.specs.Int.{bit_at}
use Rattle.ca_apgcode.specs.{Grids.GridCells, Grids.cell, Representation.IsRepresentation, inner.Turned.IsMirrored, inner.Turned.IsFlipped}
use Rattle.ca_apgcode.specs.inner.Turned.{IsTransposed}
use Rattle.ca_apgcode.specs.declared.sides.Side.{Side}
use Rattle.ca_apgcode.specs.declared.sides.Side.TheVariants.{North, South, West, East}

-- the box as it is seen from a side: its strips are rows from the north or from the south, or columns from the west or from the east
abbrev pub IsSeenFrom : Side → GridCells → GridCells → Type 0
IsSeenFrom North grid seen = seen ≡ grid
IsSeenFrom South grid seen = IsFlipped grid seen
IsSeenFrom West grid seen = IsTransposed grid seen
IsSeenFrom East grid seen = (mirrored : GridCells) × IsMirrored grid mirrored × IsTransposed mirrored seen

-- how many columns it has then
abbrev pub seen_width : Side → GridCells → ℕ
seen_width North grid = length grid.columns
seen_width South grid = length grid.columns
seen_width West grid = grid.height
seen_width East grid = grid.height

-- and how many rows
abbrev pub seen_height : Side → GridCells → ℕ
seen_height North grid = grid.height
seen_height South grid = grid.height
seen_height West grid = length grid.columns
seen_height East grid = length grid.columns

-- the row is one of the five before this one
pub record IsOfFiveBefore (end y : ℕ) : Type 0 where
  pub low : end ≤ y + 5
  pub high : y < end

-- the bits of the number say which columns have a live cell in the five rows before this one
pub record AreLiveBefore (cells : ℕ → ℕ → ℕ) (end mask : ℕ) : Type 0 where
  pub all : (x y : ℕ) → IsOfFiveBefore end y → cells x y ≡ 1 → bit_at mask x ≡ 1
  pub some : (x : ℕ) → bit_at mask x ≡ 1 → (y : ℕ) × IsOfFiveBefore end y × (cells x y ≡ 1)

-- the bits of the number say which columns have a live cell in the five rows from this one down
pub record IsStripMask (cells : ℕ → ℕ → ℕ) (y mask : ℕ) : Type 0 where
  pub all : (x v : ℕ) → v < 5 → cells x (y + v) ≡ 1 → bit_at mask x ≡ 1
  pub some : (x : ℕ) → bit_at mask x ≡ 1 → (v : ℕ) × (v < 5) × (cells x (y + v) ≡ 1)

-- the bit of the column before this one; before the first one it is 1
abbrev pub west_bit : ℕ → ℕ → ℕ
west_bit mask zero = 1
west_bit mask (suc x) = bit_at mask x

-- the bit of the column after this one, of `width` columns; after the last one it is 1
abbrev pub east_bit : (width mask : ℕ) → ℕ → ℕ
east_bit width mask x = if x + 1 == width then 1 else bit_at mask (x + 1)

-- the bits of one number that the other one doesn't have
abbrev pub bits_without : ℕ → ℕ → ℕ
bits_without one other = bit_xor one (bit_and one other)

-- a byte for each bit of the mask, another one where the next one of four numbers lacks it, and a third one where all of them do
abbrev pub text_length : (mask one two three four : ℕ) → ℕ
text_length mask one two three four =
    count_ones mask + count_ones (bits_without mask one) + count_ones (bits_without mask (bit_or (bit_or (bit_or one two) three) four))

-- the number is the length of each representation of the box
abbrev pub IsTextLength : ℕ → GridCells → Type 0
IsTextLength n box = (text : List ℕ) → IsRepresentation (cell box) box.height text → n ≡ length text

-- each representation of the box is longer than `most` bytes
abbrev pub HasLongTexts : ℕ → GridCells → Type 0
HasLongTexts most box = (text : List ℕ) → IsRepresentation (cell box) box.height text → most < length text
