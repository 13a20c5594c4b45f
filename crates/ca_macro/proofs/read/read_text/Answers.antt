use Rattle.std.proofs.Common.{sym, ◌∙◌}
use Rattle.ca_macro.proofs.LinesRead.{none_read, one_read, fault_next}
use Rattle.ca_quad.proofs.Growth.{grows_same}
use Rattle.ca_macro.proofs.read.read_text.Goals as goal

pub lines-init : goal.lines-init
lines-init c =
    let store = c.args.store.now in
    let sound = c.count.ensures.sound in
    none_read c.args.bytes.now c.next_line.result.0.now c.next_line.result.1.now store c.new-reading.result
    c.next_line.ensures.lines (c.new-reading.ensures store sound) (grows_same store sound)
    c.next_line.ensures.shorter

pub lines-preserved : goal.lines-preserved
lines-preserved c =
    let line = c.next_line-in-lines.result in
    let is = c.next_line-in-lines.ensures in
    one_read c.args.bytes.now c.lines.rest.now c.lines.number c.args.store.now c.lines.store c.lines.reading
    c.lines.invariant line.0.now line.1.now c.read.new.store c.read.new.self
    is.lines c.read.ensures.grows c.in_default.ensures.said is.shorter

pub returns-in-Err-clause-fault : goal.returns-in-Err-clause-fault
returns-in-Err-clause-fault c =
    let line = c.next_line-in-lines.result in
    c.at_line.ensures c.args.bytes.now
    (fault_next c.args.bytes.now c.lines.rest.now c.lines.number c.args.store.now c.lines.store
    c.lines.reading c.lines.invariant line.0.now line.1.now (sym c.starts_with.ensures.value ∙ c.if-not-starts_with.false)
    c.next_line-in-lines.ensures.lines c.in-Err.fault c.in-Err.ensures.fault)
