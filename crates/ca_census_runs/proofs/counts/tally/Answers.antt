use Rattle.std.proofs.Common.{◌≡◌, unwrap_or, map, take, sym, subst, ◌∙◌}
use Rattle.std.specs.Map.{lookup}
use Rattle.std.specs.Str.{bytes_eq}
use Rattle.ca_census_runs.specs.Prelude.{IsTally, label}
use Rattle.ca_census_runs.specs.inner.Entries.{counts_of}
use Rattle.ca_census_runs.proofs.LabelCounts.{no_tally, tally_more, labels_more}
use Rattle.ca_census_runs.proofs.counts.tally.Goals as goal

pub objects-init : goal.objects-init
objects-init c = no_tally c.new-counts.result.entries c.new-counts.ensures.empty

pub objects-preserved : goal.objects-preserved
objects-preserved c =
    let objects = c.args.objects.now in
    let old = c.objects.counts.entries in
    let one = label c.object-item.result in
    let number = subst (λ l. c.number_of-number.result ≡ unwrap_or (lookup (bytes_eq l) (counts_of old)) 0) (c.deref.ensures.value ∙ c.in_ok-label.ensures) c.number_of-number.ensures in
    subst (λ labels. IsTally labels (counts_of c.insert.new.self.entries)) (sym (labels_more objects c.objects.object-index _ c.objects-test.true c.object-item.is))
    (tally_more (map label (take c.objects.object-index objects)) old c.insert.new.self.entries c.in_ok-label.label c.number_of-number.result one c.objects.invariant
    c.in_ok-label.ensures number c.in_ok-insert.ensures.entries c.insert.ensures.unique)
