-- What is reported of a refusal is on one line.
use Rattle.std.proofs.Common.{ℕ, Option, None, Some, refl}
use Rattle.ca_plane.specs.Prelude.{Every}
use Rattle.ca_rule.specs.declared.{fault.RuleFault.RuleFault, table.fault.TableFault.TableFault}
use Rattle.ca_rule.specs.declared.fault.RuleFault.TheVariants as rules
use Rattle.ca_rule.specs.declared.table.fault.TableFault.TheVariants as tables
use Rattle.ca_rle.specs.declared.fault.RleFault.TheVariants as rle
use Rattle.ca_macro.specs.declared.fault.MacroFault.TheVariants as macrocell
use Rattle.ca_pattern.specs.declared.pattern_fault.PatternFault.{PatternFault}
use Rattle.ca_pattern.specs.declared.pattern_fault.PatternFault.TheVariants as patterns
use Rattle.ca_answers.specs.declared.cause.Cause.{Cause}
use Rattle.ca_answers.specs.declared.cause.Cause.TheVariants as causes
use Rattle.ca_pattern.specs.Prelude.{rule_fault_text, table_fault_text, pattern_fault_text}
use Rattle.ca_answers.specs.Prelude.{cause_text}
use Rattle.ca_report.specs.Prelude.{at_line}
use Rattle.ca_identify_lines.proofs.Saying.{is_inner}
use Rattle.ca_identify_lines.proofs.NameWords.{decimal_inner}

rule_inner : (fault : RuleFault) → Every is_inner (rule_fault_text fault)
rule_inner rules.Bounded = refl
rule_inner rules.Wakes = refl
rule_inner rules.Unknown = refl

table_inner : (fault : TableFault) → Every is_inner (table_fault_text fault)
table_inner tables.Memory = refl
table_inner fault = refl

pattern_inner : (fault : PatternFault) → Every is_inner (pattern_fault_text fault)
pattern_inner (patterns.Rle rle.Memory) = refl
pattern_inner (patterns.Macro macrocell.Memory) = refl
pattern_inner fault = refl

pub cause_inner : (cause : Cause) → Every is_inner (cause_text cause)
cause_inner (causes.BadTable fault) = table_inner fault
cause_inner (causes.BadPattern fault) = pattern_inner fault
cause_inner (causes.BadRule fault) = rule_inner fault
cause_inner cause = refl

pub at_inner : (line : Option ℕ) → Every is_inner (at_line line)
at_inner None = refl
at_inner (Some line) = decimal_inner line
