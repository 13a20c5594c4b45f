use Rattle.std.proofs.Common.{length}
use Rattle.ca_rule.proofs.SaidLines.{IsAhead}
use Rattle.ca_rule.proofs.table.said_lines.SaidLines.next.Given as goal

abbrev pub invariant-lines : goal.invariant-lines
invariant-lines l = IsAhead l.self l.read l.left

abbrev pub decreases-lines : goal.decreases-lines
decreases-lines l = length l.left
