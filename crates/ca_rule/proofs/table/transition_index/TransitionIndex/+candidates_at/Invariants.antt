use Rattle.std.proofs.Common.{length}
use Rattle.ca_rule.proofs.table.transition_index.TransitionIndex.+candidates_at.Given as goal

abbrev pub decreases-candidates_at : goal.decreases-candidates_at
decreases-candidates_at l = length l.places.now
