use Rattle.std.proofs.Common.{◌+◌, sym, subst}
use Rattle.ca_plane.specs.Prelude.{IsAfter}
use Rattle.ca_census.proofs.SettledSearches.{clusters_then}
use Rattle.ca_census.proofs.search.try_after.Goals as goal

pub returns-in-Some-clusters-clause-settled : goal.returns-in-Some-clusters-clause-settled
returns-in-Some-clusters-clause-settled g c = λ cells shows.
    let next = g.A.Automaton.next_of in
    let stands = subst (λ r. IsAfter (next r) cells (c.args.search.now.reach.start + c.args.generations) c.in-Some.plane) (sym c.requires.rule) ((rw c.in-Some.is at c.in_ok-plane.ensures.plane) cells shows) in
    let found = rw c.in-Some-clusters.is at c.in_ok-clusters.ensures.clusters in
    record {
      clusters = clusters_then (next c.args.rule.now) cells (c.args.search.now.reach.start + c.args.generations) c.in-Some.plane c.in-Some-clusters.clusters.items stands found;
      plane = stands;
      within = c.requires.within;
    }
