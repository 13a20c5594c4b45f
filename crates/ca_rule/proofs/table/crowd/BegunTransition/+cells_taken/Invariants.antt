use Rattle.std.proofs.Common.{length}
use Rattle.ca_rule.proofs.table.crowd.BegunTransition.+cells_taken.Given as goal

abbrev pub decreases-cells_taken : goal.decreases-cells_taken
decreases-cells_taken l = length l.places.now
