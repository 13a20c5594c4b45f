-- A rule table as its fields keep it.
use Rattle.std.specs.Prelude.{◌≡◌, ℕ, List, Bool, true, nat_lt, replicate}
use Rattle.ca_rule.specs.declared.table.{neighbourhood.Neighbourhood.Neighbourhood, neighbourhood.Symmetry.Symmetry, slot.Slot.Slot, parts_fault.PartsFault.PartsFault}
use Rattle.ca_rule.specs.declared.table.slot.Slot.TheVariants.{Number, Variable}
use Rattle.ca_plane.specs.Prelude.{IsWord}
use Rattle.ca_rule.specs.declared.table.parts_fault.PartsFault.TheVariants.{Wakes, Memory}
use Rattle.ca_rule.specs.{TableNext.States, TableNext.Transition, TableNext.TableRule, TableNext.table_next, TableNext.IsSoundTable, TableFaults.DoesWake}

-- the table of these parts
abbrev pub stored_table : List ℕ → ℕ → Neighbourhood → Symmetry → List States → List Transition → TableRule
stored_table named count of under sets lines = record {
  name = named;
  states = count;
  neighbourhood = of;
  symmetry = under;
  variables = sets;
  transitions = lines;
}

-- a result that is a number is a state below the count
abbrev pub is_below : ℕ → Slot → Bool
is_below count (Number state) = nat_lt state count
is_below count (Variable v) = true

-- what holds of each table that is kept: its name is a word, and it is sound
pub record IsStoredTable (table : TableRule) : Type 0 where
  pub named : IsWord table.name
  pub sound : IsSoundTable table

-- why the parts of a table aren't kept: it wakes, or there is no memory for one that doesn't
abbrev pub IsPartsFault : TableRule → PartsFault → Type 0
IsPartsFault table Wakes = DoesWake table
IsPartsFault table Memory = table_next table (replicate 9 0) ≡ 0
