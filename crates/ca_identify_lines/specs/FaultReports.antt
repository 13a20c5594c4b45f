-- What is reported of a fault for which a file isn't identified.
use Rattle.std.specs.Prelude.{◌≡◌, None, Some}
use Rattle.ca_answers.specs.declared.cause.Cause.{Cause}
use Rattle.ca_answers.specs.declared.cause.Cause.TheVariants as causes
use Rattle.ca_pattern.specs.declared.located_fault.LocatedFault.{LocatedFault}
use Rattle.ca_pattern.specs.declared.located_fault.LocatedFault.TheVariants.{Unread, UnnamedRule, StateTooLarge, Work, Memory}
use Rattle.ca_report.specs.declared.detailed_fault.DetailedFault.{DetailedFault}

-- the report has this cause, of which no more is known
abbrev pub IsBareReport : Cause → DetailedFault Cause → Type 0
IsBareReport cause report = report ≡ record { fault = cause; line = None; rule_text = None }

-- the report of a fault has its cause: with the line on which the file's spelling is faulty, where it is on one, and with the rule text that names no
-- rule. Any other fault has no report, since no file is refused for it
abbrev pub IsReportOf : LocatedFault → DetailedFault Cause → Type 0
IsReportOf (Unread bad) report = report ≡ record { fault = causes.BadPattern bad.fault; line = bad.line; rule_text = None }
IsReportOf (UnnamedRule unnamed) report = report ≡ record { fault = causes.BadRule unnamed.fault; line = None; rule_text = Some unnamed.rule_text }
IsReportOf StateTooLarge report = IsBareReport causes.StateTooLarge report
IsReportOf Work report = IsBareReport causes.Work report
IsReportOf Memory report = IsBareReport causes.Memory report
IsReportOf fault report = ⊥
