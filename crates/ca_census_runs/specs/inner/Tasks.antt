-- What the parts of a run do.
use Rattle.std.specs.Prelude.{◌≡◌, ◌+◌, ◌<◌, ◌≤◌, ℕ, List, [], ◌∷◌, ◌++◌, ⊤}
use Rattle.ca_plane.specs.Prelude.{longest_period, most_generations}
use Rattle.ca_pattern.specs.Prelude.{AreGoodLimits}
use Rattle.ca_identify_lines.specs.declared.{entry.Subject.Subject, known_rules.KnownRules.KnownRules}
use Rattle.ca_census.specs.Prelude.{IsFileable}
use Rattle.ca_census_files.specs.declared.files.FilesFault.{FilesFault}
use Rattle.ca_census_files.specs.declared.files.FilesFault.TheVariants.{Memory}
use Rattle.ca_census_files.specs.declared.files.FilesFault.TheVariants as files
use Rattle.ca_census_files.specs.declared.folder.FolderFault.{FolderFault}
use Rattle.ca_census_files.specs.declared.folder.FolderFault.TheVariants as folders
use Rattle.ca_census_runs.specs.declared.fault.CensusFault.{CensusFault}
use Rattle.ca_census_runs.specs.declared.fault.CensusFault.TheVariants as faults
use Rattle.ca_census_runs.specs.declared.{task.CensusTask.CensusTask, outcome.CensusOutcome.CensusOutcome, file_lines.FileResults.FileResults}
use Rattle.ca_census_runs.specs.declared.outcome.CensusOutcome.TheVariants.{Settled}
use Rattle.ca_census_runs.specs.Files.{HasNoFilesOf}
use Rattle.ca_census_runs.specs.Runs.{TellsFile}

-- it is within what may be asked for
pub record IsGoodTask (task : CensusTask) : Type 0 where
  pub limits : AreGoodLimits task.limits
  pub few : task.reach.start + task.reach.limit ≤ most_generations
  pub budget : task.reach.budget < longest_period

-- of a census, files can be written but for cells out of range, and its generations are few enough
abbrev pub IsFileableOutcome : CensusTask → CensusOutcome → Type 0
IsFileableOutcome task (Settled found) = IsFileable found.origin found.census × (task.reach.start + found.census.generations ≤ most_generations)
IsFileableOutcome task outcome = Unit {0}

-- why there are no files of what came of a file: of a census, for a reason of its own; or memory is out
abbrev pub HasNoOutcomeFiles : CensusTask → CensusOutcome → FilesFault → Type 0
HasNoOutcomeFiles task outcome Memory = ⊤
HasNoOutcomeFiles task (Settled found) fault = HasNoFilesOf task found fault
HasNoOutcomeFiles task outcome fault = ⊥

-- the text and these results are what is told of a file, whose name is put after those taken
pub record TellsNext (rules : KnownRules) (task : CensusTask) (subject : Subject) (old new : List (List ℕ)) (text : List ℕ) (results : FileResults) : Type 0 where
  pub name : List ℕ
  pub taken : new ≡ old ++ name ∷ []
  pub tells : TellsFile rules task old subject (record { name = name; text = text; refused = results.refused; files = results.files.items })

-- the fault of a run where there are no files of the census of the file at an index
abbrev pub fault_of_files : FilesFault → (index : ℕ) → CensusFault
fault_of_files files.GenTooLarge index = faults.GenTooLarge index
fault_of_files files.Range index = faults.Range index
fault_of_files files.Memory index = faults.Memory

-- and where they aren't added to the folder
abbrev pub fault_of_folder : FolderFault → CensusFault
fault_of_folder folders.Taken = faults.Taken
fault_of_folder folders.Unwritten = faults.Unwritten
fault_of_folder folders.Memory = faults.Memory
