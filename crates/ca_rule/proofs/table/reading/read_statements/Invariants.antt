use Rattle.std.proofs.Common.{length}
use Rattle.ca_rule.specs.inner.TableReading.{left_of}
use Rattle.ca_rule.specs.inner.TableSettings.{meaning_of}
use Rattle.ca_rule.specs.inner.TableSaying.{IsBehindSaid}
use Rattle.ca_rule.proofs.table.reading.read_statements.Given as goal

-- the lines before those that are left say what is kept
abbrev pub invariant-lines : goal.invariant-lines
invariant-lines l = IsBehindSaid (meaning_of l.settings) (left_of l.lines) (left_of l.left) l.statements

abbrev pub decreases-lines : goal.decreases-lines
decreases-lines l = length l.left.left.now
