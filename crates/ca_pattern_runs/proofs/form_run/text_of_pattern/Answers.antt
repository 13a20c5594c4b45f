use Rattle.std.proofs.Common.{subst, sym}
use Rattle.std.specs.Result.{IfOk}
use Rattle.ca_pattern.proofs.OpenedFiles.{pattern_told}
use Rattle.ca_report.specs.declared.form.Form.TheVariants.{Text}
use Rattle.ca_report.specs.declared.form.TextForm.{TextForm}
use Rattle.ca_pattern_runs.specs.Prelude.{IsShownAfter, IsFormAfter}
use Rattle.ca_pattern_runs.proofs.DrawnFiles.{written_after}
use Rattle.ca_pattern_runs.proofs.form_run.text_of_pattern.Goals as goal

-- the lines of a summary are one form
pub returns-in-Ok-summary_lines-clause-text : goal.returns-in-Ok-summary_lines-clause-text
returns-in-Ok-summary_lines-clause-text c = λ bytes tables n is.
    let summary = c.in-Ok.summary in
    let text = c.in-Ok-summary_lines.text.items in
    let told = pattern_told bytes tables n c.args.pattern is summary (c.in-Ok.ensures.summary _ is.is_pattern) in
    let shown : IsShownAfter bytes tables n text = record { summary = summary; holds = told; lines = c.in-Ok-summary_lines.ensures } in
    subst (λ (form : TextForm). IsFormAfter (Text form) bytes tables n text) (sym c.in-Summary.is) shown

-- and the text of a format is one
pub returns-in-File-clause-text : goal.returns-in-File-clause-text
returns-in-File-clause-text c = λ bytes tables n is.
    subst (λ (form : TextForm). IfOk c.text.result (λ text. IsFormAfter (Text form) bytes tables n text.items)) (sym c.in-File.is)
    (written_after bytes tables n c.args.pattern is c.in-File.target c.text.result (c.text.ensures.written _ is.is_pattern))
