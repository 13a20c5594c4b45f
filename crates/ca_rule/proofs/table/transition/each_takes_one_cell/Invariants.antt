use Rattle.std.proofs.Common.{◌≡◌, map, length}
use Rattle.std.specs.Prelude.{zip, slice_index}
use Rattle.std.specs.List.{list_all}
use Rattle.ca_rule.specs.Prelude.{SlotCell, take_one_cell}
use Rattle.ca_rule.proofs.table.transition.each_takes_one_cell.Given as goal

-- the answer lies with the slots that are left
abbrev pub invariant-slots : goal.invariant-slots
invariant-slots l =
    list_all (λ (t : SlotCell). take_one_cell (zip l.slots (map (slice_index l.nine) l.places)) t.0 t.1) (zip l.slots (map (slice_index l.nine) l.places))
    ≡ list_all (λ (t : SlotCell). take_one_cell (zip l.slots (map (slice_index l.nine) l.places)) t.0 t.1) (zip l.slots_left (map (slice_index l.nine) l.places_left))

abbrev pub decreases-slots : goal.decreases-slots
decreases-slots l = length l.slots_left
