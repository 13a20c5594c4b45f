use Rattle.std.proofs.Common.{length}
use Rattle.ca_rule.proofs.table.transition.+cell_of.Given as goal

abbrev pub decreases-cell_of : goal.decreases-cell_of
decreases-cell_of l = length l.slots.now
