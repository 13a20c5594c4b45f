use Rattle.std.proofs.Common.{sym, subst, arith}
use Rattle.std.specs.List.{All}
use Rattle.std.proofs.lemmas.List.Elements.{All-get_or, All-push}
use Rattle.ca_plane.specs.Prelude.{IsSparse}
use Rattle.ca_clusters.specs.Prelude.{GoesRound}
use Rattle.ca_census.specs.declared.entry.CensusObject.{CensusObject}
use Rattle.ca_census.proofs.CensusEntries.{entries_more}
use Rattle.ca_census.proofs.census.put_entries.Goals as goal

pub objects-preserved : goal.objects-preserved
objects-preserved c = record {
  entries = λ next before old round.
      let objects = c.args.objects.now in
      let i = c.objects.object-index in
      let object = c.object-item.result in
      let here = subst (GoesRound next) (sym c.object-item.is) (All-get_or (GoesRound next) objects i object (omega (arith, c.objects-test.true)) round) in
      rw c.in_ok-push.ensures.items
      (entries_more next c.args.coded before objects i object c.objects.entries.items c.in_ok-entry.entry (omega (arith, c.objects-test.true)) c.object-item.is (c.in_ok-entry.ensures.entry next here)
      (c.objects.invariant.entries next before old round));
  sparse = λ old. subst (All (λ (o : CensusObject). IsSparse o.plane)) (sym c.in_ok-push.ensures.items) (All-push (λ (o : CensusObject). IsSparse o.plane) c.objects.entries.items c.in_ok-entry.entry (c.objects.invariant.sparse old) c.in_ok-entry.ensures.sparse);
}
