use Rattle.std.proofs.Common.{◌≡◌, length}
use Rattle.ca_rule.specs.inner.TableReading.{said_text, left_of, IsBehindSkipped}
use Rattle.ca_rule.proofs.table.head.tail_after_table.Given as goal

-- no line before those that are left begins a table
abbrev pub invariant-lines : goal.invariant-lines
invariant-lines l = IsBehindSkipped (left_of l.lines) (left_of l.left) × (said_text l.left ≡ said_text l.lines)

abbrev pub decreases-lines : goal.decreases-lines
decreases-lines l = length l.left.left.now
