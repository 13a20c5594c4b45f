-- The slots of a transition while its fields are read.
use Rattle.std.specs.Prelude.{List, take}
use Rattle.ca_rule.specs.declared.table.{slot.Slot.Slot, transition_slots.TransitionSlots.TransitionSlots}

-- the slots that have been read
abbrev pub slots_of : TransitionSlots → List Slot
slots_of slots = take slots.count slots.slots
