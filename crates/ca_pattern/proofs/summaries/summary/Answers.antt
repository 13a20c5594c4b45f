use Rattle.ca_pattern.proofs.OneFault.{opening_alone}
use Rattle.ca_pattern.proofs.OpenedFiles.{pattern_told}
use Rattle.ca_pattern.proofs.summaries.summary.Goals as goal

pub convert_fault-requires : goal.convert_fault-requires
convert_fault-requires c =
    let found = opening_alone c.args.bytes.now c.args.tables.now c.in-Err.refused c.in-Err.ensures.fault in
    (found.0, found.1)

pub returns-in-Ok-summary-clause-summary : goal.returns-in-Ok-summary-clause-summary
returns-in-Ok-summary-clause-summary c =
    let is = c.in-Ok.ensures.opened in
    pattern_told c.args.bytes.now c.args.tables.now 0 c.in-Ok.pattern is c.in-Ok-summary.summary (c.in-Ok-summary.ensures.summary _ is.is_pattern)
