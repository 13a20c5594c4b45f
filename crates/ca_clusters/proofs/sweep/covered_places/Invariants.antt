use Rattle.std.proofs.Common.{◌≤◌}
use Rattle.ca_steps.specs.Prelude.{HasStates}
use Rattle.ca_clusters.specs.inner.Regions.{IsCoveredBy}
use Rattle.ca_clusters.proofs.sweep.covered_places.Given as goal

-- the plane is covered from the start, and a step can be taken from the latest plane
abbrev pub invariant-rounds : goal.invariant-rounds
invariant-rounds g l = record {
  covered : IsCoveredBy l.fn.plane l.covered;
  states : HasStates (g.A.Automaton.state_count l.fn.rule) l.now;
  budget : l.budget ≤ l.fn.budget;
}
