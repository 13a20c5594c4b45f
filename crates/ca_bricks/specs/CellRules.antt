-- How rules of two states tell next states, for many cells at once.
use Rattle.std.specs.Prelude.{◌≡◌, ℕ, ◌<◌, ℤ, List, length}
use Rattle.std.specs.List.{All}
use Rattle.ca_plane.specs.Prelude.{counting_next, around}
use Rattle.ca_bricks.specs.{Lanes.tile_cell, Lanes.IsWithinEdge, Diagrams.diagram_next}
use Rattle.ca_bricks.specs.declared.cell_rule.CellRule.{CellRule}
use Rattle.ca_bricks.specs.declared.cell_rule.CellRule.TheVariants.{ByCounting, ByDiagram}

-- the next state of the centre of nine cells
abbrev pub cell_next : CellRule → List ℕ → ℕ
cell_next (ByCounting counting) nine = counting_next counting nine
cell_next (ByDiagram diagram) nine = diagram_next diagram.nodes.items nine

-- a rule with this next state goes so where all nine cells are dead or live
pub record GoesByCells (next : List ℕ → ℕ) (rule : CellRule) : Type 0 where
  pub goes_by : (nine : List ℕ) → length nine ≡ 9 → All (λ s. s < 2) nine → next nine ≡ cell_next rule nine

-- but for its edge, the later tile is one generation on
abbrev pub IsTileNext : CellRule → (tile later : List ℕ) → Type 0
IsTileNext rule tile later = (x y : ℤ) → IsWithinEdge x y → tile_cell later x y ≡ cell_next rule (around (tile_cell tile) x y)
