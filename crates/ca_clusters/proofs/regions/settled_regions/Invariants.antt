use Rattle.std.proofs.Common.{◌≡◌, ◌≤◌, map}
use Rattle.std.specs.List.{All}
use Rattle.ca_clusters.specs.inner.Regions.{IsRegion, cells_of}
use Rattle.ca_clusters.proofs.regions.settled_regions.Given as goal

-- the regions so far, each with its clusters
abbrev pub invariant-regions : goal.invariant-regions
invariant-regions g l = record {
  can_next : (goal.iterator-regions g).can_next l.region-iterator;
  is_finite : (goal.iterator-regions g).is_finite l.region-iterator;
  clusters : All (IsRegion (g.A.Automaton.next_of l.fn.rule)) l.regions.items;
  cells : map cells_of l.regions.items ≡ l.yielded;
  budget : l.budget ≤ l.fn.budget;
}
