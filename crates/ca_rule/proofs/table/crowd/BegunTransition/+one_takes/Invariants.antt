use Rattle.std.proofs.Common.{length}
use Rattle.ca_rule.proofs.table.crowd.BegunTransition.+one_takes.Given as goal

abbrev pub decreases-one_takes : goal.decreases-one_takes
decreases-one_takes l = length l.slots.now
