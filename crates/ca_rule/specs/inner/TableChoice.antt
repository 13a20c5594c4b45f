-- The places that the slots of a transition take, slot by slot.
use Rattle.std.specs.Prelude.{ℕ, List, take}
use Rattle.ca_rule.specs.declared.table.choice.Choice.{Choice}

-- the places that are taken, in the order of the slots
abbrev pub taken_of : Choice → List ℕ
taken_of choice = take choice.taken_count choice.taken

-- the places that are free, in the order of the ring
abbrev pub free_of : Choice → List ℕ
free_of choice = take choice.free_count choice.free
