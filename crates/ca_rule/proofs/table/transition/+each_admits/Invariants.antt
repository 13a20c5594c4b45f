use Rattle.std.proofs.Common.{length}
use Rattle.ca_rule.proofs.table.transition.+each_admits.Given as goal

abbrev pub decreases-each_admits : goal.decreases-each_admits
decreases-each_admits l = length l.slots.now
