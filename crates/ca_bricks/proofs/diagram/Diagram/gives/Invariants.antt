use Rattle.std.proofs.Common.{◌≡◌, ℕ, ◌<◌, slice_index}
use Rattle.ca_bricks.specs.Prelude.{diagram_next}
use Rattle.ca_bricks.specs.inner.Neighbourhoods.{neighbourhood}
use Rattle.ca_bricks.proofs.diagram.Diagram.gives.Given as goal

-- it gives the states of the neighbourhoods so far
abbrev pub invariant-numbers : goal.invariant-numbers
invariant-numbers l = (n : ℕ) → n < l.number → slice_index l.next_states n ≡ diagram_next l.self.nodes.items (neighbourhood n)
