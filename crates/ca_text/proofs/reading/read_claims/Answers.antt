use Rattle.ca_text.proofs.AllLines.{one_read, first_fault}
use Rattle.ca_text.proofs.reading.read_claims.Goals as goal

pub lines-preserved : goal.lines-preserved
lines-preserved c =
    one_read c.args.bytes.now c.lines.rest.now c.lines.number c.lines.reading c.lines.invariant c.next_line.result.0.now c.next_line.result.1.now c.read.new.self
    c.next_line.ensures.lines c.next_line.ensures.shorter c.in_ok-read.ensures.said

pub returns-in_err-read-clause-fault : goal.returns-in_err-read-clause-fault
returns-in_err-read-clause-fault c =
    first_fault c.args.bytes.now c.lines.rest.now c.lines.number c.lines.reading c.lines.invariant c.next_line.result.0.now c.next_line.result.1.now
    c.next_line.ensures.lines c.from_residual.result c.in_err-read.field-0.0 c.from_residual.ensures.1 c.in_err-read.ensures.fault
