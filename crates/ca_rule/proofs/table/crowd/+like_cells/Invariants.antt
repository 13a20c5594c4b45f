use Rattle.std.proofs.Common.{length}
use Rattle.ca_rule.proofs.table.crowd.+like_cells.Given as goal

abbrev pub decreases-like_cells : goal.decreases-like_cells
decreases-like_cells l = length l.places.now
