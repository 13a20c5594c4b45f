-- What a run answers where a part of it failed.
use Rattle.std.specs.Prelude.{ℕ, ℤ, List, Option}
use Rattle.ca_report.specs.declared.{fault.ToolFault.ToolFault, form.DrawRequest.DrawRequest}
use Rattle.ca_report.specs.declared.fault.ToolFault.TheVariants.{Input, Window, Memory}
use Rattle.ca_pattern_runs.specs.{Runs.IsInputFault, Drawn.HasNoWindow, Drawn.HasNoWindowAfter}
use Rattle.ca_rule.specs.Prelude.{TableRule}
use Rattle.ca_pattern.specs.Prelude.{MayWantMemory}

-- why the file isn't read
abbrev pub IsReadingFault : Option (List ℕ) → Option (List ℕ) → ToolFault → Type 0
IsReadingFault old new (Input fault) = IsInputFault old new fault
IsReadingFault old new told = ⊥

-- why nothing is drawn of cells: they have no window as it is asked for; or memory is out
abbrev pub IsUndrawn : DrawRequest → (ℤ → ℤ → ℕ) → ToolFault → Type 0
IsUndrawn request cells (Window fault) = HasNoWindow request cells fault
IsUndrawn request cells Memory = Unit {0}
IsUndrawn request cells told = ⊥

-- the same of the plane of a file's pattern after n generations
abbrev pub IsUndrawnAfter : List ℕ → List TableRule → (n : ℕ) → DrawRequest → ToolFault → Type 0
IsUndrawnAfter bytes tables n request (Window fault) = HasNoWindowAfter bytes tables n request fault
IsUndrawnAfter bytes tables n request Memory = MayWantMemory bytes
IsUndrawnAfter bytes tables n request told = ⊥
