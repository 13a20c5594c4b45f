use Rattle.std.proofs.Common.{length}
use Rattle.ca_rule.proofs.table.transition_index.TransitionIndex.+candidates_in.Given as goal

abbrev pub decreases-candidates_in : goal.decreases-candidates_in
decreases-candidates_in l = length l.placements.now
