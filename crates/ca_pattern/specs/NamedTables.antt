-- Good tables, and why a text is none.
use Rattle.std.specs.Prelude.{◌≡◌, ◌≢◌, ℕ, List, replicate}
use Rattle.ca_rule.specs.Prelude.{TableRule, table_next, IsTable}
use Rattle.ca_rule.specs.TableFaults as table_faults
use Rattle.ca_rule.specs.declared.table.fault.TableFault.{TableFault}
use Rattle.ca_rule.specs.declared.table.fault.TableFault.TheVariants as table_fault

-- the bytes are the text of this table, which leaves the empty plane empty
abbrev pub IsQuietTable : List ℕ → TableRule → Type 0
IsQuietTable bytes table = IsTable bytes table × (table_next table (replicate 9 0) ≡ 0)

-- the fault for which the bytes are the text of no such table; out of memory is none of them
abbrev pub IsTableFault : List ℕ → TableFault → Type 0
IsTableFault bytes fault = (fault ≢ table_fault.Memory) × table_faults.IsTableTextFault bytes fault
