-- What is known of a fault for which a run over a pattern file writes nothing.
use Rattle.std.specs.Prelude.{◌≡◌, ℕ, List, Option, None, Some, Vec, Result, Ok, Err}
use Rattle.std.specs.declared.alloc.Global.{Global}
use Rattle.ca_pattern.specs.declared.convert_fault.ConvertFault.TheVariants.{BadPattern, BadRule}
use Rattle.ca_pattern.specs.Prelude.{HoldsRuleText, IsPatternFaultOn}
use Rattle.ca_report.specs.declared.{detailed_fault.DetailedFault.DetailedFault, fault.ToolFault.ToolFault}
use Rattle.ca_report.specs.declared.fault.ToolFault.TheVariants.{Convert}

-- the line on which a fault of the file with these bytes stands, which only a fault of their spelling has; and their rule text, which is given where it
-- names no rule
abbrev pub IsRunDetailOf : List ℕ → ToolFault → Option ℕ → Option (Vec ℕ Global) → Type 0
IsRunDetailOf bytes (Convert (BadPattern fault)) line text = (text ≡ None) × IsPatternFaultOn bytes fault line
IsRunDetailOf bytes (Convert (BadRule fault)) line None = ⊥
IsRunDetailOf bytes (Convert (BadRule fault)) line (Some text) = (line ≡ None) × HoldsRuleText text.items bytes
IsRunDetailOf bytes fault line text = (line ≡ None) × (text ≡ None)

abbrev pub HasRunDetail : List ℕ → DetailedFault ToolFault → Type 0
HasRunDetail bytes refused = IsRunDetailOf bytes refused.fault refused.line refused.rule_text

-- what a run answers, with the fault alone
abbrev pub fault_alone : {T : Type 0} → Result T (DetailedFault ToolFault) → Result T ToolFault
fault_alone (Ok status) = Ok status
fault_alone (Err refused) = Err refused.fault
