-- Lines that are rows of cells (LifeWiki, "Plaintext" and "Life 1.05"; that blanks may follow the cells is our own).
use Rattle.std.specs.Prelude.{◌≡◌, ℕ, List, Bool, ◌==◌, ◌||◌}
use Rattle.ca_plane.specs.Prelude.{letter, is_blank, Every, front, rest}

-- a dead cell `.` or a live one `*`, as Life 1.05 has them
abbrev pub is_star_cell : ℕ → Bool
is_star_cell b = (b == letter ".") || (b == letter "*")

-- these or a live cell `O`, as Plaintext has them
abbrev pub is_letter_cell : ℕ → Bool
is_letter_cell b = is_star_cell b || (b == letter "O")

-- the line is a row of these cells: it begins with them, and only blanks follow
pub record IsRow (is_cell : ℕ → Bool) (line cells : List ℕ) : Type 0 where
  pub cells_are : cells ≡ front is_cell line
  pub blanks : Every is_blank (rest is_cell line)
