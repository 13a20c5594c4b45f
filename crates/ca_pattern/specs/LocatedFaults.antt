-- Why a pattern file isn't opened, and where the fault stands.
use Rattle.std.specs.Prelude.{◌≡◌, ℕ, List, Option, Some, None}
use Rattle.ca_plane.specs.Prelude.{Picture, cell}
use Rattle.ca_rule.specs.Prelude.{TableRule, RuleValue, IsRuleFault}
use Rattle.ca_pattern.specs.declared.{convert_fault.ConvertFault.ConvertFault, located_fault.LocatedFault.LocatedFault}
use Rattle.ca_pattern.specs.declared.convert_fault.ConvertFault.TheVariants as convert
use Rattle.ca_pattern.specs.declared.located_fault.LocatedFault.TheVariants.{Unread, UnnamedRule, StateTooLarge, TooManyCells, Memory}
use Rattle.ca_pattern.specs.{Means.HoldsRuleText, Means.HoldsRuledPattern, Means.MayWantMemory, Formats.IsPatternFaultOn, States.HasLargeState}

-- the first reason for which a pattern file isn't opened: the bytes aren't read, for this fault, which stands on this line where it is one of their
-- spelling; or this is their rule text, and it names no rule; or a state is too large. Out of memory may come before any of them, where memory may
-- run out for the bytes
abbrev pub IsOpeningFault : List ℕ → List TableRule → LocatedFault → Type 0
IsOpeningFault bytes tables (Unread bad) = IsPatternFaultOn bytes bad.fault bad.line
IsOpeningFault bytes tables (UnnamedRule unnamed) = HoldsRuleText unnamed.rule_text.items bytes × IsRuleFault unnamed.rule_text.items tables unnamed.fault
IsOpeningFault bytes tables StateTooLarge = (cells : Picture) × (rule : RuleValue) × (generation : ℕ)
    × HoldsRuledPattern bytes tables cells rule generation × HasLargeState rule (cell cells)
IsOpeningFault bytes tables Memory = MayWantMemory bytes
IsOpeningFault bytes tables fault = ⊥

-- the fault alone, where a file is converted or summed up as it is
abbrev pub convert_fault_of : LocatedFault → Option ConvertFault
convert_fault_of (Unread bad) = Some (convert.BadPattern bad.fault)
convert_fault_of (UnnamedRule unnamed) = Some (convert.BadRule unnamed.fault)
convert_fault_of StateTooLarge = Some convert.StateTooLarge
convert_fault_of TooManyCells = Some convert.TooManyCells
convert_fault_of Memory = Some convert.Memory
convert_fault_of fault = None

-- two faults are the same, and stand in one place
abbrev pub IsSameFault : (one two : LocatedFault) → Type 0
IsSameFault (Unread one) (Unread two) = one ≡ two
IsSameFault (UnnamedRule one) (UnnamedRule two) = (one.fault ≡ two.fault) × (one.rule_text.items ≡ two.rule_text.items)
IsSameFault one two = one ≡ two
