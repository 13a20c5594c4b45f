use Rattle.std.proofs.Common.{length}
use Rattle.ca_rule.proofs.table.ties.+one_may_fit.Given as goal

abbrev pub decreases-one_may_fit : goal.decreases-one_may_fit
decreases-one_may_fit l = length l.placements.now
