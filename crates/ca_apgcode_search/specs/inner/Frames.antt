-- Small boxes in frames of bricks.
use Rattle.std.specs.Prelude.{◌≡◌, ℕ, zero, suc, ◌+◌, ◌*◌, ◌<◌, ◌⊎◌, ℤ, pos, ◌+ℤ◌, ◌<ℤ◌, ◌≤ℤ◌, List, [], length, slice_index, get_or}
use Rattle.std.specs.Int.{bit_at}
use Rattle.ca_bricks.specs.Prelude.{IsBlank, IsBlankRound, HasNeighbours}
use Rattle.ca_apgcode.specs.Prelude.{GridCells, live}

-- the rows of a frame: a blank one, and then the columns of the box, each with a dead cell before it
abbrev pub frame_row : GridCells → ℕ → ℕ
frame_row grid zero = 0
frame_row grid (suc x) = slice_index grid.columns x * 2

-- the brick is one of the three in the middle
abbrev pub IsMiddle : ℕ → Type 0
IsMiddle t = (t ≡ 4) ⊎ ((t ≡ 7) ⊎ (t ≡ 10))

-- three bricks in the middle have the rows, and the others are blank
pub record IsFrameOf (grid : GridCells) (bricks : List (List ℕ)) : Type 0 where
  pub size : length bricks ≡ 15
  pub middle : (k y : ℕ) → k < 3 → y < 16 → slice_index (get_or bricks (4 + 3 * k) []) y ≡ frame_row grid (16 * k + y)
  pub blank : (t : ℕ) → (IsMiddle t → ⊥) → IsBlank (get_or bricks t [])

-- of a frame the bricks beside those in the middle, which have others on all sides too, see no live cell
abbrev pub IsDarkBeside : List (List ℕ) → Type 0
IsDarkBeside bricks = (t : ℕ) → HasNeighbours 3 15 t → (IsMiddle t → ⊥) → IsBlankRound 3 bricks t

-- the place lies beside 48 columns and 64 rows from (left, top) on
abbrev pub IsBeside : (left top x y : ℤ) → Type 0
IsBeside left top x y = (x <ℤ left) ⊎ ((left +ℤ pos 48) ≤ℤ x) ⊎ (y <ℤ top) ⊎ ((top +ℤ pos 64) ≤ℤ y)

-- the live cells of a plane are the bits of 48 rows, of which the first begins at (left, top): each row is a column of the plane
pub record AreColumnsOf (rows : List ℕ) (cells : ℤ → ℤ → ℕ) (left top : ℤ) : Type 0 where
  pub inside : (u v : ℕ) → u < 48 → v < 64 → live (cells (left +ℤ pos u) (top +ℤ pos v)) ≡ bit_at (slice_index rows u) v
  pub outside : (x y : ℤ) → IsBeside left top x y → live (cells x y) ≡ 0
