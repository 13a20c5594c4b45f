use Rattle.std.proofs.Common.{◌++◌, refl, ap, ◌∙◌}
use Rattle.ca_identify_lines.specs.declared.entry.Entry.{Entry}
use Rattle.ca_identify_lines.specs.Prelude.{entry_lines}
use Rattle.ca_census_runs.proofs.file_lines.put_refused.Goals as goal

pub returns : goal.returns
returns c =
    let entry : Entry = record { name = c.args.name; path = c.args.path; outcome = c.args.outcome } in
    (entry, refl, refl, refl, refl, c.in_ok-push_entry.ensures.whole ∙ ap (λ l. l ++ entry_lines 0 entry) c.clear.ensures.items, refl)
