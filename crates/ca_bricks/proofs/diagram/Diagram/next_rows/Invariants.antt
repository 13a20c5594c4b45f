use Rattle.std.proofs.Common.{◌≡◌, ℕ, ◌<◌, length}
use Rattle.ca_bricks.specs.Prelude.{round_cells, nine_at, states_of}
use Rattle.ca_bricks.specs.inner.Planes.{cells_at}
use Rattle.ca_bricks.proofs.diagram.Diagram.next_rows.Given as goal

-- the states of the nodes so far, for each cell
abbrev pub invariant-nodes : goal.invariant-nodes
invariant-nodes l = record {
  made : (x y : ℕ) → x < 64 → y < 16 → cells_at l.states.items x y ≡ states_of l.self.nodes.items (nine_at (round_cells l.fn.round) x y) l.node-index;
  size : length l.states.items ≡ l.node-index;
}
