use Rattle.std.proofs.Common.{length}
use Rattle.ca_rule.proofs.table.transition.+takes_one_cell.Given as goal

abbrev pub decreases-takes_one_cell : goal.decreases-takes_one_cell
decreases-takes_one_cell l = length l.slots.now
