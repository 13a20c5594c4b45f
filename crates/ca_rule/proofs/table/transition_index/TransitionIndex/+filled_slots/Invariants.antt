use Rattle.ca_rule.proofs.table.transition_index.TransitionIndex.+filled_slots.Given as goal

abbrev pub decreases-filled_slots : goal.decreases-filled_slots
decreases-filled_slots l = l.slot
