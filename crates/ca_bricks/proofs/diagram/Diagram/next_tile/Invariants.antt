use Rattle.std.proofs.Common.{◌≡◌, ℕ, suc, ◌<◌, length}
use Rattle.ca_plane.specs.Prelude.{row_cells}
use Rattle.ca_bricks.specs.Prelude.{nine_at, states_of}
use Rattle.ca_bricks.specs.inner.Planes.{cells_at, tile_planes}
use Rattle.ca_bricks.proofs.diagram.Diagram.next_tile.Given as goal

-- the states of the nodes so far, for each cell that isn't on the edge
abbrev pub invariant-nodes : goal.invariant-nodes
invariant-nodes l = record {
  made : (x y : ℕ) → x < 14 → y < 14 → cells_at (tile_planes l.states.items) (suc x) (suc y) ≡ states_of l.self.nodes.items (nine_at (row_cells l.fn.alive.rows) x y) l.node-index;
  size : length l.states.items ≡ l.node-index;
}
