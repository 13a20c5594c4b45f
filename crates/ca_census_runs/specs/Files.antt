-- The files that a run of `census` adds to a folder (our own; docs/CLAIMS.md).
use Rattle.std.specs.Prelude.{◌≡◌, ◌≢◌, ℕ, List, [], None, MatchOption, Vec, false, ⊤}
use Rattle.std.specs.declared.alloc.Global.{Global}
use Rattle.ca_identify_lines.specs.Prelude.{is_claim_path}
use Rattle.ca_census.specs.declared.{census.Census.Census, file.FileCensus.FileCensus}
use Rattle.ca_census_files.specs.declared.{folder.NewFile.NewFile, files.FilesFault.FilesFault}
use Rattle.ca_census_files.specs.declared.files.FilesFault.TheVariants.{Memory}
use Rattle.ca_census_files.specs.Prelude.{AreCensusFiles, HasNoFiles}
use Rattle.ca_census_runs.specs.declared.task.CensusTask.{CensusTask}
use Rattle.ca_census_runs.specs.Places.{IsPlacedCensus}

-- files are asked for, and no claim text can name this path
pub record IsUnnameable (task : CensusTask) (path : List ℕ) : Type 0 where
  pub asked : task.folder ≢ None
  pub path_is : is_claim_path path ≡ false

-- the files of a census in a folder, whose objects are numbered by their places, and whose claim text names these rule files
abbrev pub ArePlacedFiles : (folder : List ℕ) → (rules : List (Vec ℕ Global)) → (start : ℕ) → (name path : List ℕ) → FileCensus → List NewFile → Type 0
ArePlacedFiles folder rules start name path found files =
    (placed : Census) × IsPlacedCensus found.census placed × AreCensusFiles folder rules start name path found.origin placed files

-- those in the folder of a task; none where there is no folder
abbrev pub AreFilesIfAsked : CensusTask → (rules : List (Vec ℕ Global)) → (name path : List ℕ) → FileCensus → List NewFile → Type 0
AreFilesIfAsked task rules name path found files =
    MatchOption task.folder (files ≡ []) (λ folder. ArePlacedFiles folder.now rules task.reach.start name path found files)

-- why there are no files of a census, where they are asked for; memory may be out in any case
abbrev pub HasNoFilesOf : CensusTask → FileCensus → FilesFault → Type 0
HasNoFilesOf task found Memory = ⊤
HasNoFilesOf task found fault = (task.folder ≢ None) × (placed : Census) × IsPlacedCensus found.census placed × HasNoFiles task.reach.start found.origin placed fault
