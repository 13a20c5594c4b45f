use Rattle.std.proofs.Common.{◌≤◌}
use Rattle.std.specs.List.{All}
use Rattle.ca_plane.specs.Prelude.{IsInPlane}
use Rattle.ca_steps.specs.Prelude.{HasStates}
use Rattle.ca_clusters.proofs.sweep.next_places.Given as goal

-- a step can be taken from the latest plane, and the cells so far lie in the plane
abbrev pub invariant-generations : goal.invariant-generations
invariant-generations g l = record {
  states : HasStates (g.A.Automaton.state_count l.fn.rule) l.now;
  near : All (λ e. IsInPlane e.0) l.cells.items;
  budget : l.budget ≤ l.fn.budget;
}
