use Rattle.std.proofs.Common.{sym}
use Rattle.std.proofs.lemmas.List.{drop_all}
use Rattle.ca_rule.proofs.table.indexed.tail_after_64.Goals as goal

pub returns-then-transitions-le64 : goal.returns-then-transitions-le64
returns-then-transitions-le64 c = sym (drop_all 64 c.args.transitions.now c.if-transitions-le64.true)
