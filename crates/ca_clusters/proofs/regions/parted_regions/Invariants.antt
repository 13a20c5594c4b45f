use Rattle.std.proofs.Common.{◌≤◌, length, map}
use Rattle.ca_parts.specs.Prelude.{together}
use Rattle.ca_clusters.specs.inner.Regions.{AreSettledRegions, cells_of}
use Rattle.ca_clusters.proofs.regions.parted_regions.Given as goal

-- the regions are those to begin with, but for some that were made one
abbrev pub invariant-pairs : goal.invariant-pairs
invariant-pairs g l = record {
  regions : AreSettledRegions (g.A.Automaton.next_of l.fn.rule) (g.A.Automaton.state_count l.fn.rule) (together (map cells_of l.fn.regions.items)) l.regions.items;
  budget : l.budget ≤ l.fn.budget;
}

abbrev pub decreases-pairs : goal.decreases-pairs
decreases-pairs g l = length l.regions.items
