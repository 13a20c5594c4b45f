-- What a run of `census` writes (our own; docs/CLAIMS.md).
use Rattle.std.specs.Prelude.{◌≡◌, ◌≢◌, ◌⊎◌, ◌<◌, ℕ, suc, List, [], ◌∷◌, ◌++◌, map, length, take, drop, Option, None, Some, Vec}
use Rattle.std.specs.declared.alloc.Global.{Global}
use Rattle.std.specs.List.{flat_map, filter_map}
use Rattle.std.specs.Io.KnownBytes.{Appends}
use Rattle.ca_plane.specs.Prelude.{Counted, Rises}
use Rattle.ca_pattern.specs.declared.located_fault.LocatedFault.{LocatedFault}
use Rattle.ca_rule.specs.Prelude.{TableRule}
use Rattle.ca_identify_lines.specs.declared.{entry.Content.Content, entry.Subject.Subject, entry.Outcome.Outcome, entry.Entry.Entry, known_rules.KnownRules.KnownRules}
use Rattle.ca_identify_lines.specs.declared.entry.Content.TheVariants.{Bytes, Missing, FaultyRule}
use Rattle.ca_identify_lines.specs.declared.entry.Outcome.TheVariants as entries
use Rattle.ca_identify_lines.specs.FaultReports.{IsBareReport}
use Rattle.ca_identify_lines.specs.Prelude.{claim_name, IsFreeName, IsReportOf, entry_lines, WritesOn, WritesOnFirst}
use Rattle.ca_census.specs.Prelude.{IsCensusAt, IsUncountedFor}
use Rattle.ca_census.specs.declared.file.FileCensus.{FileCensus}
use Rattle.ca_census_files.specs.declared.{folder.NewFile.NewFile, files.FilesFault.FilesFault}
use Rattle.ca_census_files.specs.declared.files.FilesFault.TheVariants as reasons
use Rattle.ca_census_files.specs.Prelude.{NamedBytes, named_bytes, AddsFiles}
use Rattle.ca_census_runs.specs.declared.{task.CensusTask.CensusTask, outcome.CensusOutcome.CensusOutcome, fault.CensusFault.CensusFault}
use Rattle.ca_census_runs.specs.declared.fault.CensusFault.TheVariants as faults
use Rattle.ca_census_runs.specs.declared.outcome.CensusOutcome.TheVariants as outcomes
use Rattle.ca_census_runs.specs.declared.outcome.CensusOutcome.TheVariants.{Settled, Unsettled, Unnameable, Refused}
use Rattle.ca_census_runs.specs.{Lines.AreCensusLines, Lines.unsettled_line, Files.IsUnnameable, Files.AreFilesIfAsked, Files.HasNoFilesOf}

-- what came of a file that gave this is true of it: its bytes have this census; it isn't found to settle, which says nothing of it; this is the report of
-- a fault for which there is no census of its bytes; or there are no bytes of it, for this cause; or this rule file of its isn't good
abbrev pub IsContentCensus : List TableRule → CensusTask → Content → CensusOutcome → Type 0
IsContentCensus tables task (Bytes bytes) (Settled found) = IsCensusAt bytes.now tables task.reach found
IsContentCensus tables task (Bytes bytes) Unsettled = Unit {0}
IsContentCensus tables task (Bytes bytes) (Refused why) = (refused : LocatedFault) × IsUncountedFor bytes.now tables refused × IsReportOf refused why
IsContentCensus tables task (Missing cause) (Refused why) = IsBareReport cause why
IsContentCensus tables task (FaultyRule rule) (outcomes.FaultyRule told) = told ≡ rule
IsContentCensus tables task content outcome = ⊥

-- files are asked for, and no claim text can name the file's path; or one can, or need not, and what came of the file is true of what it gave
abbrev pub IsCensusOutcome : KnownRules → CensusTask → Subject → CensusOutcome → Type 0
IsCensusOutcome rules task subject outcome =
    (IsUnnameable task subject.path.now × (outcome ≡ Unnameable))
    ⊎ ((IsUnnameable task subject.path.now → ⊥) × IsContentCensus rules.tables.now task subject.content outcome)

-- what is told of a file: its name, the lines on it, the entry on it where there is no census of it, and the files of its census
pub record FileTold : Type 0 where
  pub name : List ℕ
  pub text : List ℕ
  pub refused : Option Entry
  pub files : List NewFile

-- there is an entry on a file of this path, with this outcome, and the text is the comment that `identify` writes of it
abbrev pub TellsRefusal : List ℕ → Outcome → FileTold → Type 0
TellsRefusal path outcome told = (entry : Entry) × (told.refused ≡ Some entry) × (entry.name.items ≡ told.name) × (entry.path.now ≡ path)
    × (entry.outcome ≡ outcome) × (told.text ≡ entry_lines 0 entry) × (told.files ≡ [])

-- what came of a file of this path is told
abbrev pub TellsOutcome : CensusTask → (rules : List (Vec ℕ Global)) → List ℕ → CensusOutcome → FileTold → Type 0
TellsOutcome task rules path (Settled found) told = AreCensusLines task told.name found.census told.text × (told.refused ≡ None)
    × AreFilesIfAsked task rules told.name path found told.files
TellsOutcome task rules path Unsettled told = (told.text ≡ unsettled_line task.reach told.name) × (told.refused ≡ None) × (told.files ≡ [])
TellsOutcome task rules path Unnameable told = TellsRefusal path entries.Unnameable told
TellsOutcome task rules path (Refused why) told = TellsRefusal path (entries.Refused why) told
TellsOutcome task rules path (outcomes.FaultyRule rule) told = TellsRefusal path (entries.FaultyRule rule) told

-- what is told of a file, whose name is none of those taken, is what came of it in truth
pub record TellsFile (rules : KnownRules) (task : CensusTask) (taken : List (List ℕ)) (subject : Subject) (told : FileTold) : Type 0 where
  pub name : IsFreeName taken (claim_name subject.path.now) told.name
  pub outcome : CensusOutcome
  pub true_of : IsCensusOutcome rules task subject outcome
  pub tells : TellsOutcome task rules.paths.now subject.path.now outcome told

-- the same of each file, in order; the names are different, and none of those taken before
abbrev pub TellFiles : KnownRules → CensusTask → (taken : List (List ℕ)) → List Subject → List FileTold → Type 0
TellFiles rules task taken [] [] = Unit {0}
TellFiles rules task taken [] (t ∷ ts) = ⊥
TellFiles rules task taken (s ∷ ss) [] = ⊥
TellFiles rules task taken (s ∷ ss) (t ∷ ts) = TellsFile rules task taken s t × TellFiles rules task (taken ++ t.name ∷ []) ss ts

-- what a run answers besides its text: the entries on the files of which there is no census, and the files that are added to the folder, in order
pub record RunTold : Type 0 where
  pub refused : List Entry
  pub files : List NamedBytes

-- the text has what is told of these subjects, one after the other, with these entries and files
pub record IsCensusText (rules : KnownRules) (task : CensusTask) (subjects : List Subject) (text : List ℕ) (run : RunTold) : Type 0 where
  pub told : List FileTold
  pub tells : TellFiles rules task [] subjects told
  pub lines : text ≡ flat_map (λ file. file.text) told
  pub entries : run.refused ≡ filter_map (λ file. file.refused) told
  pub files_are : run.files ≡ flat_map (λ file. map named_bytes file.files) told

-- the whole text on these files is written, with these entries, and the files of all are added to the folder, where it tells what it has by `files`
abbrev pub WritesCensus : {F W : Type 0} → (F → Option (List NamedBytes)) → (W → Option (List ℕ)) → F → F → Counted W → Counted W → KnownRules
    → CensusTask → List Subject → List Entry → Type 0
WritesCensus files contents before after old new rules task subjects refused = (added : List NamedBytes)
    × WritesOn contents old new (IsCensusText rules task) subjects (record { refused = refused; files = added }) × AddsFiles (files before) (files after) added

-- the text on some first files is written, and theirs are added to the folder; for the next one this holds
pub record EndsBefore {F W : Type 0} (files : F → Option (List NamedBytes)) (contents : W → Option (List ℕ)) (before after : F) (old new : Counted W)
    (rules : KnownRules) (task : CensusTask) (subjects : List Subject) (Holds : (index : ℕ) → Subject → Type 0) : Type 0 where
  pub writes : WritesOnFirst contents old new (IsCensusText rules task) subjects
  pub adds : AddsFiles (files before) (files after) writes.told.files
  pub next : Subject
  pub later : List Subject
  pub stops : drop writes.count subjects ≡ next ∷ later
  pub holds : Holds writes.count next

-- a write failed: the text on some first files is written, and a first part of the lines on the next one, but not all; the files of them all are added
pub record EndsWithin {F W : Type 0} (files : F → Option (List NamedBytes)) (contents : W → Option (List ℕ)) (before after : F) (old new : Counted W)
    (rules : KnownRules) (task : CensusTask) (subjects : List Subject) : Type 0 where
  pub count : ℕ
  pub fewer : count < length subjects
  pub front : List ℕ
  pub earlier : RunTold
  pub front_is : IsCensusText rules task (take count subjects) front earlier
  pub lines : List ℕ
  pub told : RunTold
  pub all : IsCensusText rules task (take (suc count) subjects) (front ++ lines) told
  pub sent : List ℕ
  pub unsent : List ℕ
  pub parts : lines ≡ sent ++ unsent
  pub some : 0 < length unsent
  pub written : Appends (contents old.inner) (contents new.inner) (front ++ sent)
  pub counted : Rises old.failures new.failures
  pub adds : AddsFiles (files before) (files after) told.files

-- the file has a census, of which there are no files for this reason; where memory is out that may be of any file
abbrev pub IsUnfiled : KnownRules → CensusTask → Subject → FilesFault → Type 0
IsUnfiled rules task subject reasons.Memory = Unit {0}
IsUnfiled rules task subject fault = (found : FileCensus) × IsCensusOutcome rules task subject (Settled found) × HasNoFilesOf task found fault

-- the file has a census, of which files are asked for
abbrev pub HasFiles : KnownRules → CensusTask → Subject → Type 0
HasFiles rules task subject = (task.folder ≢ None) × (found : FileCensus) × IsCensusOutcome rules task subject (Settled found)

-- what holds for the file, at this index, at which a run ends before any of its lines is written
abbrev pub EndsAt : KnownRules → CensusTask → CensusFault → (index : ℕ) → Subject → Type 0
EndsAt rules task (faults.GenTooLarge at) index subject = (at ≡ index) × IsUnfiled rules task subject reasons.GenTooLarge
EndsAt rules task (faults.Range at) index subject = (at ≡ index) × IsUnfiled rules task subject reasons.Range
EndsAt rules task faults.Taken index subject = HasFiles rules task subject
EndsAt rules task faults.Unwritten index subject = HasFiles rules task subject
EndsAt rules task faults.Memory index subject = Unit {0}
EndsAt rules task faults.Write index subject = ⊥

-- why a run ends, and what is written and added then
abbrev pub EndsCensus : {F W : Type 0} → (F → Option (List NamedBytes)) → (W → Option (List ℕ)) → F → F → Counted W → Counted W → KnownRules
    → CensusTask → List Subject → CensusFault → Type 0
EndsCensus files contents before after old new rules task subjects faults.Write = EndsWithin files contents before after old new rules task subjects
EndsCensus files contents before after old new rules task subjects fault = EndsBefore files contents before after old new rules task subjects (EndsAt rules task fault)
