-- Tiles: squares of 16 by 16 cells of two states, a number for each row from the top. Bit x of a row is its cell at x.
use Rattle.std.specs.Prelude.{◌≡◌, ℕ, ℤ, pos, List}
use Rattle.ca_plane.specs.Prelude.{IsInBox, around, moore_next, row_cells, from_corner}

-- the state at (x, y) of a tile with its upper left cell at (0, 0); 0 above it and to the left of it
abbrev pub tile_cell : List ℕ → ℤ → ℤ → ℕ
tile_cell rows = from_corner (row_cells rows)

-- (x, y) is in the tile, and not on its edge
abbrev pub IsWithinEdge : ℤ → ℤ → Type 0
IsWithinEdge x y = IsInBox (record { x0 = pos 1; y0 = pos 1; x1 = pos 14; y1 = pos 14 }) x y

-- but for its edge, the later tile is one generation on, under the rule with these masks
abbrev pub IsNextTile : (birth survive : ℕ) → (tile later : List ℕ) → Type 0
IsNextTile birth survive tile later = (x y : ℤ) → IsWithinEdge x y → tile_cell later x y ≡ moore_next birth survive (around (tile_cell tile) x y)
