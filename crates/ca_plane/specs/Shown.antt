-- Cells of squares on the plane: counted from a corner, and as the bits of rows and words (our own).
use Rattle.std.specs.Prelude.{◌≡◌, ℕ, ◌+◌, ◌*◌, ◌<◌, nat_lt, if◌then◌else◌, ℤ, pos, ◌+ℤ◌, List, slice_index}
use Rattle.std.specs.Int.{bit_at}

-- cells that are counted from a corner; above it and to the left of it all is 0
abbrev pub from_corner : (ℕ → ℕ → ℕ) → ℤ → ℤ → ℕ
from_corner cells (pos x) (pos y) = cells x y
from_corner cells _ _ = 0

-- the cells of rows from the top, a bit each, the lowest in the west
abbrev pub row_cells : List ℕ → ℕ → ℕ → ℕ
row_cells rows x y = bit_at (slice_index rows y) x

-- the cells of a word: 8 rows of 8 bits, of which the bit 8 * y + x is the cell at (x, y)
abbrev pub word_cells : ℕ → ℕ → ℕ → ℕ
word_cells word x y = if nat_lt x 8 then bit_at word (8 * y + x) else 0

-- as far as the side reaches, the cells are those of the plane from (a, b) on
abbrev pub ShowsPlane : ℕ → (ℕ → ℕ → ℕ) → (ℤ → ℤ → ℕ) → ℤ → ℤ → Type 0
ShowsPlane side cells p a b = (x y : ℕ) → x < side → y < side → cells x y ≡ p (a +ℤ pos x) (b +ℤ pos y)
