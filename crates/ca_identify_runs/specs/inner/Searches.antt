-- What is looked for in files that are to be identified, and what is written of them.
use Rattle.std.specs.Prelude.{◌≡◌, ◌≤◌, ℕ, List, [], Option}
use Rattle.std.specs.List.{flat_map}
use Rattle.ca_plane.specs.Prelude.{Counted, longest_period, most_generations}
use Rattle.ca_pattern.specs.Prelude.{AreGoodLimits}
use Rattle.ca_identify_runs.specs.declared.identification_run.Search.{Search}
use Rattle.ca_identify_lines.specs.declared.entry.{Entry.Entry, Subject.Subject}
use Rattle.ca_report.specs.declared.fault.ToolFault.{ToolFault}
use Rattle.ca_report.specs.declared.fault.ToolFault.TheVariants as tools
use Rattle.ca_identify_lines.specs.Prelude.{entry_lines, AreEntries, WritesOnFirst, WritesPartOn}

-- it is within what may be asked for
pub record IsGoodSearch (search : Search) : Type 0 where
  pub few : search.task.generations ≤ most_generations
  pub limits : AreGoodLimits search.task.limits
  pub some : 1 ≤ search.task.scope.limit
  pub most : search.task.scope.limit ≤ longest_period

-- these are true entries on these files, and the text is their lines
pub record AreLines (search : Search) (subjects : List Subject) (text : List ℕ) (entries : List Entry) : Type 0 where
  pub holds : AreEntries search.tables.now search.task [] subjects entries
  pub lines : text ≡ flat_map (entry_lines search.task.generations) entries

-- why not all lines on some files are written, and what is written of them
abbrev pub EndsLines : {W : Type 0} → (W → Option (List ℕ)) → Counted W → Counted W → Search → List Subject → ToolFault → Type 0
EndsLines contents old new search subjects tools.Write = WritesPartOn contents old new (AreLines search) subjects
EndsLines contents old new search subjects tools.Memory = WritesOnFirst contents old new (AreLines search) subjects
EndsLines contents old new search subjects told = ⊥
