use Rattle.std.proofs.Common.{◌+◌, ◌≤◌}
use Rattle.ca_plane.specs.Prelude.{cell}
use Rattle.ca_clusters.specs.inner.Runs.{AreRuns}
use Rattle.ca_clusters.proofs.search.clusters_by_meetings.Given as goal

-- the parts, each run alone, are the plane. No more generations were looked at than units were taken, but for the first one
abbrev pub invariant-rounds : goal.invariant-rounds
invariant-rounds g l = record {
  runs : AreRuns (g.A.Automaton.next_of l.fn.rule) (g.A.Automaton.state_count l.fn.rule) (cell l.fn.plane) l.parts.items;
  some : 1 ≤ l.horizon;
  horizon : l.horizon + l.budget ≤ 1 + l.fn.budget;
}

abbrev pub decreases-rounds : goal.decreases-rounds
decreases-rounds g l = l.budget
