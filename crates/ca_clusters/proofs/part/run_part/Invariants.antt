use Rattle.std.proofs.Common.{◌≡◌, ◌+◌, ◌-◌, ◌≤◌, length}
use Rattle.ca_parts.specs.Prelude.{plane_at}
use Rattle.ca_clusters.specs.Prelude.{first_plane}
use Rattle.ca_clusters.specs.inner.Runs.{IsBeginning}
use Rattle.ca_clusters.proofs.part.run_part.Given as goal

-- the planes so far are a beginning of the same plane, and no more than the horizon asks for
abbrev pub invariant-generations : goal.invariant-generations
invariant-generations g l = record {
  beginning : IsBeginning (g.A.Automaton.next_of l.rule) (g.A.Automaton.state_count l.rule) l.planes.items;
  first : plane_at l.planes.items 0 ≡ first_plane l.fn.part.shows;
  most : length l.planes.items ≤ l.horizon + 1;
  budget : l.budget ≤ l.fn.budget;
}

-- the generations that are left
abbrev pub decreases-generations : goal.decreases-generations
decreases-generations g l = (l.horizon + 1) - length l.planes.items
