use Rattle.std.proofs.Common.{[], subst}
use Rattle.ca_import.specs.inner.Reading.{IsReading}
use Rattle.ca_import.proofs.LinesRead.{none_read, one_read}
use Rattle.ca_import.proofs.import.read_lines.Goals as goal

pub lines-init : goal.lines-init
lines-init c =
    none_read c.args.format c.args.bytes.now c.new-reading.result
    (subst (λ p. IsReading p [] c.new-reading.result) c.first_row.ensures c.new-reading.ensures)

pub lines-preserved : goal.lines-preserved
lines-preserved c =
    one_read c.args.format c.args.bytes.now c.lines.rest.now c.lines.number c.lines.reading c.lines.invariant
    c.next_line.result.0.now c.next_line.result.1.now c.read.new.self c.next_line.ensures.lines c.in_default.ensures.takes c.next_line.ensures.shorter
