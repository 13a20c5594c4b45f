use Rattle.std.proofs.Common.{length}
use Rattle.ca_rule.proofs.table.ties.+two_may_fit.Given as goal

abbrev pub decreases-two_may_fit : goal.decreases-two_may_fit
decreases-two_may_fit l = length l.left.now
