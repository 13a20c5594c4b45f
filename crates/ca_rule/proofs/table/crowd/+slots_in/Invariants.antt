use Rattle.std.proofs.Common.{length}
use Rattle.ca_rule.proofs.table.crowd.+slots_in.Given as goal

abbrev pub decreases-slots_in : goal.decreases-slots_in
decreases-slots_in l = length l.slots.now
