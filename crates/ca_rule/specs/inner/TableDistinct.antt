-- Slots of which no two are one variable.
use Rattle.std.specs.Prelude.{List, [], ◌∷◌, Bool, true, not, ◌&&◌}
use Rattle.std.specs.List.{list_any}
use Rattle.ca_rule.specs.declared.table.slot.Slot.{Slot}
use Rattle.ca_rule.specs.declared.table.slot.Slot.TheVariants.{Number, Variable}
use Rattle.ca_rule.specs.TableNext.{is_variable}

-- no variable comes twice among the slots
abbrev pub are_distinct : List Slot → Bool
are_distinct [] = true
are_distinct (Number state ∷ ss) = are_distinct ss
are_distinct (Variable v ∷ ss) = not (list_any (is_variable v) ss) && are_distinct ss
