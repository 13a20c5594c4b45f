-- Tables of rule files, and those that are put after others.
use Rattle.std.specs.Prelude.{◌≡◌, ◌≢◌, ℕ, ◌⊎◌, List, [], ◌∷◌, ◌++◌, Vec}
use Rattle.std.specs.declared.alloc.Global.{Global}
use Rattle.ca_rule.specs.Prelude.{IsRuleFault, TableRule, IsTableTextFault}
use Rattle.ca_rule.specs.declared.fault.RuleFault.TheVariants as rule_fault
use Rattle.ca_host.specs.declared.rules.NamedTable.{NamedTable}
use Rattle.ca_host.specs.declared.rules.NamedTable.TheVariants.{Good, OtherName, Faulty}
use Rattle.ca_pattern.specs.Prelude.{HoldsRuleText, IsQuietTable, IsTableFault, IsUnreadFile}
use Rattle.ca_rule.specs.declared.table.fault.TableFault.TheVariants as table_fault
use Rattle.ca_report.specs.declared.fault.ToolFault.{ToolFault}
use Rattle.ca_report.specs.declared.fault.ToolFault.TheVariants.{BadTable, Memory}

-- what the text of a rule file holds that is looked for by a name: this good table, which has the name, or one of another name; or it has this fault
abbrev pub IsNamedTable : (name bytes : List ℕ) → NamedTable → Type 0
IsNamedTable name bytes (Good table) = IsQuietTable bytes table × (table.name ≡ name)
IsNamedTable name bytes OtherName = (table : TableRule) × IsQuietTable bytes table × (table.name ≢ name)
IsNamedTable name bytes (Faulty fault) = IsTableFault bytes fault

-- there is one more table, that of the rule file with these bytes
abbrev pub AddsTableOf : List ℕ → (old new : List TableRule) → Type 0
AddsTableOf bytes old new = (table : TableRule) × IsQuietTable bytes table × (new ≡ old ++ table ∷ [])

-- and one more path
abbrev pub AddsPath : List ℕ → (old new : List (Vec ℕ Global)) → Type 0
AddsPath path old new = (added : Vec ℕ Global) × (added.items ≡ path) × (new ≡ old ++ added ∷ [])

-- why there isn't: the bytes are the text of no good table, for this fault; or memory is out for their table, or for a good table
abbrev pub IsBadTable : List ℕ → ToolFault → Type 0
IsBadTable bytes (BadTable fault) = IsTableFault bytes fault
IsBadTable bytes Memory = IsTableTextFault bytes table_fault.Memory ⊎ ((table : TableRule) × IsQuietTable bytes table)
IsBadTable bytes told = ⊥

-- this is the rule text of a pattern file with these bytes, and it names no rule: none in its own notation, and none of the tables
abbrev pub IsUnknownRuleOf : (bytes : List ℕ) → List TableRule → (name : List ℕ) → Type 0
IsUnknownRuleOf bytes tables name = HoldsRuleText name bytes × IsRuleFault name tables rule_fault.Unknown

-- the pattern file isn't read, or its rule text has no such fault
abbrev pub HasNoUnknownRule : (bytes : List ℕ) → List TableRule → Type 0
HasNoUnknownRule bytes tables = IsUnreadFile bytes ⊎ ((text : List ℕ) × HoldsRuleText text bytes × (IsRuleFault text tables rule_fault.Unknown → ⊥))

-- tables and paths of rule files
pub record Kept : Type 0 where
  pub tables : List TableRule
  pub paths : List (Vec ℕ Global)

-- there is one more table, that of the rule file with these bytes, and it has this name; and its path
pub record AddsRuleFile (name path bytes : List ℕ) (old new : Kept) : Type 0 where
  pub added : (table : TableRule) × IsQuietTable bytes table × (table.name ≡ name) × (new.tables ≡ old.tables ++ table ∷ [])
  pub beside : AddsPath path old.paths new.paths
