-- Several states for each cell of a brick or of a tile, each as sixteen rows of bits.
use Rattle.std.specs.Prelude.{ℕ, List, map}
use Rattle.ca_plane.specs.Prelude.{row_cells}
use Rattle.ca_bricks.specs.declared.{kernel.bits.Bits.Bits, diagram_rows.Column.Column}
use Rattle.ca_bricks.specs.declared.diagram_rows.Column.TheVariants.{West, Here, East}

-- those of the cell at (x, y)
abbrev pub cells_at : List (List ℕ) → ℕ → ℕ → List ℕ
cells_at planes x y = map (λ rows. row_cells rows x y) planes

-- which of the three cells it is, counted from the western one
abbrev pub column_place : Column → ℕ
column_place West = 0
column_place Here = 1
column_place East = 2

-- those of a tile's cells, as rows
abbrev pub tile_planes : List Bits → List (List ℕ)
tile_planes planes = map (λ bits. bits.rows) planes
