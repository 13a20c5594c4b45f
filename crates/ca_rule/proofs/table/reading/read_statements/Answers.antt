use Rattle.std.proofs.Common.{sym, subst}
use Rattle.ca_rule.specs.Prelude.{IsTableTextFault}
use Rattle.ca_rule.specs.inner.TableReading.{left_of, said_line}
use Rattle.ca_rule.specs.inner.TableSettings.{meaning_of}
use Rattle.ca_rule.proofs.StatementsRead.{section-behind, line-fault, one-said}
use Rattle.ca_rule.proofs.table.reading.read_statements.Goals as goal

pub returns-then-begins_section-clause-found : goal.returns-then-begins_section-clause-found
returns-then-begins_section-clause-found c =
    section-behind (meaning_of c.args.settings.now) (left_of c.args.lines.now) (left_of c.lines.left) (left_of c.in-Some.later) (said_line c.in-Some.line) c.lines.statements c.lines.invariant c.in-Some.ensures.lines (sym (c.if-begins_section.ensures c.in-Some.line.number))

pub returns-in-Err-clause-fault : goal.returns-in-Err-clause-fault
returns-in-Err-clause-fault c = λ bytes name head has mean ended.
    subst (IsTableTextFault bytes) (sym c.at.ensures)
    (line-fault (meaning_of c.args.settings.now) (left_of c.args.lines.now) (left_of c.lines.left) (left_of c.in-Some.later) (said_line c.in-Some.line) c.lines.statements c.lines.invariant c.in-Some.ensures.lines (sym (c.if-begins_section.ensures c.in-Some.line.number))
    bytes name head has mean ended c.in-Err.fault (c.in-Err.ensures.fault c.in-Some.line.number))

pub lines-preserved : goal.lines-preserved
lines-preserved c =
    one-said (meaning_of c.args.settings.now) (left_of c.args.lines.now) (left_of c.lines.left) (left_of c.in-Some.later) (said_line c.in-Some.line) c.lines.statements c.add.new.self c.lines.invariant c.in-Some.ensures.lines
    (c.in_default-add.ensures.said c.in-Some.line.number)
