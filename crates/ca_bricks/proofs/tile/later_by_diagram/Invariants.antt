use Rattle.std.proofs.Common.{ℕ, List}
use Rattle.std.specs.Prelude.{ℤ}
use Rattle.ca_plane.specs.Prelude.{cells_after}
use Rattle.ca_bricks.specs.Prelude.{TileShows, GoesByCells}
use Rattle.ca_bricks.specs.declared.cell_rule.CellRule.TheVariants.{ByDiagram}
use Rattle.ca_bricks.proofs.tile.later_by_diagram.Given as goal

-- the tile after as many generations as were counted
abbrev pub invariant-generations : goal.invariant-generations
invariant-generations l = (next : List ℕ → ℕ) (p : ℤ → ℤ → ℕ) (a b : ℤ) → GoesByCells next (ByDiagram l.fn.diagram) → TileShows l.fn.tile.rows 0 p a b → TileShows l.now.rows l.counter (cells_after next p l.counter) a b
