use Rattle.std.proofs.Common.{subst, sym}
use Rattle.ca_report.specs.declared.form.TextForm.{TextForm}
use Rattle.ca_pattern_runs.specs.Prelude.{IsShown, IsFormOf}
use Rattle.ca_pattern_runs.proofs.pattern_run.form_text.Goals as goal

-- the lines of a summary are one form
pub returns-in-Ok-clause-text : goal.returns-in-Ok-clause-text
returns-in-Ok-clause-text c =
    let summary = c.in_ok-summary-in-Summary.summary in
    let shown : IsShown c.args.bytes.now c.args.tables.now c.in-Ok.text.items = record { summary = summary; holds = c.in_ok-summary-in-Summary.ensures.summary; lines = c.in-Ok.ensures } in
    subst (λ (form : TextForm). IsFormOf form c.args.bytes.now c.args.tables.now c.in-Ok.text.items) (sym c.in-Summary.is) shown
