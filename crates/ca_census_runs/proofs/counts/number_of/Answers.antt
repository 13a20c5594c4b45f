use Rattle.std.proofs.Common.{unwrap_or, sym, ap, ◌∙◌}
use Rattle.ca_census_runs.proofs.LabelCounts.{lookup_by_bytes}
use Rattle.ca_census_runs.proofs.counts.number_of.Goals as goal

pub returns-in-Some : goal.returns-in-Some
returns-in-Some c = ap (λ o. unwrap_or o 0) (c.in-Some.ensures.value ∙ sym (lookup_by_bytes c.args.label.now c.args.counts.now.entries))

pub returns-in-None : goal.returns-in-None
returns-in-None c = ap (λ o. unwrap_or o 0) (c.in-None.ensures.value ∙ sym (lookup_by_bytes c.args.label.now c.args.counts.now.entries))
