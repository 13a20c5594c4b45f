use Rattle.std.proofs.Common.{◌≡◌, true, length}
use Rattle.std.specs.List.{list_all}
use Rattle.ca_rule.specs.Prelude.{is_field}
use Rattle.ca_rule.specs.inner.TableFields.{fields_left}
use Rattle.ca_rule.specs.inner.TableNames.{number_in, AreSlots}
use Rattle.ca_rule.proofs.table.names.Names.slots.Given as goal

-- the fields before those that are left stand for the slots
abbrev pub invariant-fields : goal.invariant-fields
invariant-fields l =
    AreSlots l.fn.states (number_in l.self) (fields_left l.fields) (fields_left l.left) l.slots.items × (list_all is_field (fields_left l.left) ≡ true)

abbrev pub decreases-fields : goal.decreases-fields
decreases-fields l = length (fields_left l.left)
