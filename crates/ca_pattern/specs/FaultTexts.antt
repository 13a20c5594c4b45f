-- Why a rule or a table is refused, in words (our own; docs/CLAIMS.md).
use Rattle.std.specs.Prelude.{ℕ, List, ◌++◌, codes}
use Rattle.ca_rule.specs.declared.{fault.RuleFault.RuleFault, table.fault.TableFault.TableFault}
use Rattle.ca_rule.specs.declared.fault.RuleFault.TheVariants as rules
use Rattle.ca_rule.specs.declared.table.fault.TableFault.TheVariants as tables

-- why a text names no rule
abbrev pub rule_fault_text : RuleFault → List ℕ
rule_fault_text rules.Bounded = codes "bounded"
rule_fault_text rules.Wakes = codes "wakes"
rule_fault_text rules.Unknown = codes "unknown"

-- the number of the line at which a rule table is faulty, or 0 where memory is out
abbrev pub table_line : TableFault → ℕ
table_line (tables.NoRuleLine line) = line
table_line (tables.NoTable line) = line
table_line (tables.Syntax line) = line
table_line (tables.States line) = line
table_line (tables.Neighborhood line) = line
table_line (tables.Symmetries line) = line
table_line (tables.Variable line) = line
table_line (tables.Unbound line) = line
table_line (tables.Wakes line) = line
table_line tables.Memory = 0

-- what is wrong with a rule table, after some words on its faulty line; out of memory is reported alone
abbrev pub table_text : (ℕ → List ℕ) → TableFault → List ℕ
table_text words (tables.NoRuleLine line) = words line ++ codes " no rule line"
table_text words (tables.NoTable line) = words line ++ codes " no table"
table_text words (tables.Syntax line) = words line ++ codes " syntax"
table_text words (tables.States line) = words line ++ codes " states"
table_text words (tables.Neighborhood line) = words line ++ codes " neighborhood"
table_text words (tables.Symmetries line) = words line ++ codes " symmetries"
table_text words (tables.Variable line) = words line ++ codes " variable"
table_text words (tables.Unbound line) = words line ++ codes " unbound"
table_text words (tables.Wakes line) = words line ++ codes " wakes"
table_text words tables.Memory = codes "memory"

-- why a rule line's file is no good table; its faulty line isn't reported
abbrev pub table_fault_text : TableFault → List ℕ
table_fault_text fault = table_text (λ line. codes "bad table:") fault
