use Rattle.std.proofs.Common.{length}
use Rattle.ca_rule.proofs.table.crowd.BegunTransition.+takable_cells.Given as goal

abbrev pub decreases-takable_cells : goal.decreases-takable_cells
decreases-takable_cells l = length l.places.now
