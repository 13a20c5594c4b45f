use Rattle.std.proofs.Common.{sym, ◌∙◌}
use Rattle.ca_rule.specs.inner.TableReading.{left_of, said_line}
use Rattle.ca_rule.proofs.TableHead.{one-skipped, table-begins}
use Rattle.ca_rule.proofs.table.head.tail_after_table.Goals as goal

pub returns-then-begins_table-clause-found : goal.returns-then-begins_table-clause-found
returns-then-begins_table-clause-found c =
    table-begins (left_of c.args.lines.now) (left_of c.lines.left) (left_of c.in-Some.later) (said_line c.in-Some.line) c.lines.invariant.0 c.in-Some.ensures.lines (sym (c.if-begins_table.ensures c.in-Some.line.number))

pub lines-preserved : goal.lines-preserved
lines-preserved c = (
  one-skipped (left_of c.args.lines.now) (left_of c.lines.left) (left_of c.in-Some.later) (said_line c.in-Some.line) c.lines.invariant.0 c.in-Some.ensures.lines (sym (c.if-begins_table.ensures c.in-Some.line.number)),
  c.in-Some.ensures.text ∙ c.lines.invariant.1,
)
