use Rattle.std.proofs.Common.{length}
use Rattle.ca_rule.proofs.table.transition_index.TransitionIndex.+filled_slot.Given as goal

abbrev pub decreases-filled_slot : goal.decreases-filled_slot
decreases-filled_slot l = length l.places.now
