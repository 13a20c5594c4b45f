-- Faults for which there is no census of a file, and their reports.
use Rattle.std.proofs.Common.{ℕ, List, refl}
use Rattle.ca_answers.specs.declared.cause.Cause.{Cause}
use Rattle.ca_pattern.specs.declared.located_fault.LocatedFault.{LocatedFault}
use Rattle.ca_pattern.specs.declared.located_fault.LocatedFault.TheVariants.{Unread, UnnamedRule, StateTooLarge, GenTooLarge, Work, Range, TooManyCells, Memory}
use Rattle.ca_rule.specs.Prelude.{TableRule}
use Rattle.ca_report.specs.declared.detailed_fault.DetailedFault.{DetailedFault}
use Rattle.ca_identify_lines.specs.Prelude.{IsReportOf}
use Rattle.ca_census.specs.Prelude.{IsUncountedFor}

-- each of them has a report
pub has_report : (bytes : List ℕ) (tables : List TableRule) (fault : LocatedFault) → IsUncountedFor bytes tables fault → (report : DetailedFault Cause) × IsReportOf fault report
has_report bytes tables (Unread bad) h = (_, refl)
has_report bytes tables (UnnamedRule unnamed) h = (_, refl)
has_report bytes tables StateTooLarge h = (_, refl)
has_report bytes tables Memory h = (_, refl)
has_report bytes tables Work h = (_, refl)
has_report bytes tables GenTooLarge h = absurd h
has_report bytes tables Range h = absurd h
has_report bytes tables TooManyCells h = absurd h
