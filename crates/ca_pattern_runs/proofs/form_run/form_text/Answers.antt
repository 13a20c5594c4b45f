use Rattle.std.proofs.Common.{subst, sym}
use Rattle.ca_report.specs.declared.{detailed_fault.DetailedFault.DetailedFault, fault.ToolFault.ToolFault, form.Form.Form}
use Rattle.ca_pattern_runs.specs.Prelude.{HasRunDetail, IsFormFaultAfter}
use Rattle.ca_pattern_runs.proofs.DrawnFiles.{undrawn_told, text_detail}
use Rattle.ca_pattern_runs.proofs.form_run.form_text.Goals as goal

-- what is known of why no text is written
pub returns-in-Err-text_of_pattern-clause-detail : goal.returns-in-Err-text_of_pattern-clause-detail
returns-in-Err-text_of_pattern-clause-detail g c =
    let bytes = c.args.bytes.now in
    let tables = c.args.tables.now in
    let n = c.args.evolution.generations in
    let work = c.args.evolution.limits.work in
    let refused = c.in-Err-text_of_pattern.refused in
    subst (HasRunDetail bytes) (sym c.reported-in-Err-text_of_pattern.ensures)
    (text_detail bytes tables n work c.in-Text.form refused (c.in-Err-text_of_pattern.ensures.fault bytes tables n work c.in-Ok.ensures.reached))

-- why there is no picture
pub returns-in-Err-picture-clause-fault : goal.returns-in-Err-picture-clause-fault
returns-in-Err-picture-clause-fault g c =
    let bytes = c.args.bytes.now in
    let tables = c.args.tables.now in
    let n = c.args.evolution.generations in
    let work = c.args.evolution.limits.work in
    let told = undrawn_told bytes tables n work c.in-Picture.request c.in-Err-picture.fault (c.in-Err-picture.ensures.fault bytes tables n c.in-Ok.ensures.reached) in
    subst (λ (r : DetailedFault ToolFault). IsFormFaultAfter c.args.form bytes tables n work r.fault) (sym c.of.ensures)
    (subst (λ (form : Form). IsFormFaultAfter form bytes tables n work c.in-Err-picture.fault) (sym c.in-Picture.is) told)
