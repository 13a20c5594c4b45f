use Rattle.std.proofs.Common.{ℕ, rules, map, Vec, Global}
use Rattle.std.proofs.lemmas.List.Sorted.{ranks_by, answers_always}
use Rattle.ca_census_runs.specs.Prelude.{comes_before, label}
use Rattle.ca_census_runs.specs.inner.Entries.{by_bytes}
use Rattle.ca_census_runs.proofs.LabelCounts.{counts_total, counts_sorted}
use Rattle.ca_census_runs.proofs.counts.sorted_tally.Goals as goal

pub returns : goal.returns
returns c =
    let sorted = c.in_ok-sort_by.ensures.sorted (λ (a b : Vec ℕ Global × ℕ). comes_before (by_bytes a) (by_bytes b)) (ranks_by counts_total by_bytes) (answers_always _ _ _ (λ f a r g called. search rules)) in
    counts_sorted (map label c.args.objects.now) c.in_ok-counts.counts.entries c.sort_by.new.self.entries c.in_ok-counts.ensures c.sort_by.ensures.reordered.0 c.sort_by.ensures.unique sorted
