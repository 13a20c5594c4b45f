use Rattle.std.proofs.Common.{List, ◌++◌, refl, sym, subst}
use Rattle.std.specs.Prelude.{flat_map}
use Rattle.std.specs.List.{All, AllZip}
use Rattle.ca_parts.specs.Prelude.{Course}
use Rattle.ca_clusters.specs.Prelude.{first_plane, GoesRound, AreObjects}
use Rattle.ca_census.specs.Censuses.{IsEntryOf}
use Rattle.ca_census.proofs.CensusEntries.{all_so_far, counted_more, all_clusters}
use Rattle.ca_census.proofs.census.census_of.Goals as goal

pub clusters-preserved : goal.clusters-preserved
clusters-preserved g c = record {
  counted = λ all.
      let next = g.A.Automaton.next_of c.args.rule.now in
      let coded = c.args.coded in
      let cluster = c.in-Some.cluster in
      let found = c.in_ok-found.found.items in
      let new = c.put_entries.new.entries.items in
      let (before, here) = all_so_far (GoesRound next) c.clusters.yielded cluster all in
      let is = c.clusters.invariant.counted before in
      let are = c.in_ok-found.ensures here in
      let so_far = flat_map (λ (of : List Course). of) is.objects in
      let on = c.in_ok-put_entries.ensures.entries next so_far is.entries_on (subst (All (GoesRound next)) (sym c.deref.ensures.value) are.round) in
      counted_more next coded c.clusters.yielded cluster found c.clusters.objects.items new is are (subst (λ (os : List Course). AllZip (IsEntryOf next coded) (so_far ++ os) new) c.deref.ensures.value on);
  sparse = c.in_ok-put_entries.ensures.sparse c.clusters.invariant.sparse;
}

pub returns-clause-census : goal.returns-clause-census
returns-clause-census g c = λ round.
    let next = g.A.Automaton.next_of c.args.rule.now in
    let whole = all_clusters c.into_iter-cluster-iterator.result c.clusters.cluster-iterator c.next.new.self c.clusters.yielded c.args.settling.clusters.items c.next.result
    c.clusters.yielded_by c.in-None.is c.next.ensures.steps c.into_iter-cluster-iterator.ensures.into_iter_gives.0 in
    let is = c.clusters.invariant.counted (subst (All (GoesRound next)) (sym whole) round) in
    record {
      objects = is.objects;
      each = subst (λ (cs : List Course). AllZip (λ cluster of. AreObjects next (first_plane cluster) of) cs is.objects) whole is.each;
      entries = is.entries_on;
      generations = refl;
      plane = refl;
    }
