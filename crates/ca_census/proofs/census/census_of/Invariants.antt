use Rattle.std.specs.List.{All}
use Rattle.ca_plane.specs.Prelude.{IsSparse}
use Rattle.ca_clusters.specs.Prelude.{GoesRound}
use Rattle.ca_census.proofs.CensusEntries.{AreCounted}
use Rattle.ca_census.proofs.census.census_of.Given as goal

-- the entries so far are those on the objects of the clusters so far, and have sparse planes
abbrev pub invariant-clusters : goal.invariant-clusters
invariant-clusters g l = record {
  counted : All (GoesRound (g.A.Automaton.next_of l.fn.rule)) l.yielded → AreCounted (g.A.Automaton.next_of l.fn.rule) l.fn.coded l.yielded l.objects.items;
  sparse : All (λ o. IsSparse o.plane) l.objects.items;
}
