-- Faults for which files aren't identified, and their reports.
use Rattle.std.proofs.Common.{ℕ, List, Bool, true, false, refl}
use Rattle.ca_answers.specs.declared.cause.Cause.{Cause}
use Rattle.ca_pattern.specs.declared.located_fault.LocatedFault.{LocatedFault}
use Rattle.ca_pattern.specs.declared.located_fault.LocatedFault.TheVariants.{Unread, UnnamedRule, StateTooLarge, GenTooLarge, Work, Range, TooManyCells, Memory}
use Rattle.ca_rule.specs.Prelude.{TableRule}
use Rattle.ca_pattern.specs.Prelude.{IsOpeningFault}
use Rattle.ca_report.specs.declared.detailed_fault.DetailedFault.{DetailedFault}
use Rattle.ca_identify_lines.specs.declared.task.Task.{Task}
use Rattle.ca_identify_lines.specs.Prelude.{IsUnfoundFor, IsReportOf}

-- each fault for which a file isn't opened has a report
opening_report : (bytes : List ℕ) (tables : List TableRule) (fault : LocatedFault) → IsOpeningFault bytes tables fault → (report : DetailedFault Cause) × IsReportOf fault report
opening_report bytes tables (Unread bad) h = (_, refl)
opening_report bytes tables (UnnamedRule unnamed) h = (_, refl)
opening_report bytes tables StateTooLarge h = (_, refl)
opening_report bytes tables Memory h = (_, refl)
opening_report bytes tables Work h = absurd h
opening_report bytes tables GenTooLarge h = absurd h
opening_report bytes tables Range h = absurd h
opening_report bytes tables TooManyCells h = absurd h

-- and each for which it isn't identified
pub has_report : (codes : Bool) (bytes : List ℕ) (tables : List TableRule) (task : Task) (fault : LocatedFault) → IsUnfoundFor codes bytes tables task fault
    → (report : DetailedFault Cause) × IsReportOf fault report
has_report codes bytes tables task Work h = (_, refl)
has_report true bytes tables task (Unread bad) h = opening_report bytes tables (Unread bad) h
has_report true bytes tables task (UnnamedRule unnamed) h = opening_report bytes tables (UnnamedRule unnamed) h
has_report true bytes tables task StateTooLarge h = opening_report bytes tables StateTooLarge h
has_report true bytes tables task Memory h = opening_report bytes tables Memory h
has_report true bytes tables task GenTooLarge h = absurd h
has_report true bytes tables task Range h = absurd h
has_report true bytes tables task TooManyCells h = absurd h
has_report false bytes tables task (Unread bad) h = opening_report bytes tables (Unread bad) h
has_report false bytes tables task (UnnamedRule unnamed) h = opening_report bytes tables (UnnamedRule unnamed) h
has_report false bytes tables task StateTooLarge h = opening_report bytes tables StateTooLarge h
has_report false bytes tables task Memory h = opening_report bytes tables Memory h
has_report false bytes tables task GenTooLarge h = absurd h
has_report false bytes tables task Range h = absurd h
has_report false bytes tables task TooManyCells h = absurd h
