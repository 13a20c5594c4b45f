use Rattle.std.proofs.Common.{◌≡◌, length}
use Rattle.ca_bricks.specs.Prelude.{states_of}
use Rattle.ca_bricks.proofs.diagram.Diagram.next.Given as goal

-- the states of the nodes so far
abbrev pub invariant-nodes : goal.invariant-nodes
invariant-nodes l = record {
  made : l.states.items ≡ states_of l.self.nodes.items l.nine l.node-index;
  size : length l.states.items ≡ l.node-index;
}
