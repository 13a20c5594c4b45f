-- The files of a census whose objects are placed, and why there are none.
use Rattle.std.proofs.Common.{◌≡◌, ◌≢◌, ◌∙◌, ℕ, List, [], None, Some, Result, Ok, Err, IfOk, IfErr, MatchOption, Vec, Bor, sym, subst}
use Rattle.std.specs.declared.alloc.Global.{Global}
use Rattle.std.proofs.lemmas.List.Sorted.{All-permutation}
use Rattle.ca_plane.specs.Prelude.{Picture}
use Rattle.ca_identify_lines.specs.declared.{entry.Subject.Subject, known_rules.KnownRules.KnownRules}
use Rattle.ca_census.specs.Prelude.{FitsFile, IsFileable}
use Rattle.ca_census.specs.declared.{census.Census.Census, entry.CensusObject.CensusObject, file.FileCensus.FileCensus, file.Origin.Origin}
use Rattle.ca_census_files.specs.Prelude.{AreCensusFiles, HasNoFiles}
use Rattle.ca_census_files.specs.declared.folder.NewFile.{NewFile}
use Rattle.ca_census_files.specs.declared.files.FilesFault.{FilesFault}
use Rattle.ca_census_files.specs.declared.files.FilesFault.TheVariants.{GenTooLarge, Range, Memory}
use Rattle.ca_census_runs.specs.declared.{task.CensusTask.CensusTask, outcome.CensusOutcome.CensusOutcome}
use Rattle.ca_census_runs.specs.declared.outcome.CensusOutcome.TheVariants.{Settled, Unsettled, Unnameable, Refused, FaultyRule}
use Rattle.ca_census_runs.specs.Prelude.{IsPlacedCensus, ArePlacedFiles, AreFilesIfAsked, HasNoFilesOf, IsCensusOutcome, IsUnfiled}
use Rattle.ca_census_runs.specs.inner.Tasks.{HasNoOutcomeFiles}
use Rattle.ca_census_runs.proofs.AddedFiles.{some_none}

-- files can be written of it where they can of the census
pub fileable_placed : (origin : Origin) (census placed : Census) → IsPlacedCensus census placed → IsFileable origin census → IsFileable origin placed
fileable_placed origin census placed are fileable = record {
  word = fileable.word;
  generation = fileable.generation;
  plane = subst (λ (p : Picture). FitsFile origin.states p) (sym are.plane) fileable.plane;
  objects = All-permutation (λ (o : CensusObject). FitsFile origin.states o.plane) census.objects.items placed.objects.items are.objects.same fileable.objects;
}

-- why there are none of it is why there are none of the census
no_files : (task : CensusTask) (found : FileCensus) (placed : Census) (fault : FilesFault) → task.folder ≢ None → IsPlacedCensus found.census placed
    → HasNoFiles task.reach.start found.origin placed fault → HasNoFilesOf task found fault
no_files task found placed GenTooLarge asked are why = (asked, placed, are, why)
no_files task found placed Range asked are why = (asked, placed, are, why)
no_files task found placed Memory asked are why = tt

-- files of the placed census are those of the census, in the folder of the task
pub placed_files : (task : CensusTask) (rules : List (Vec ℕ Global)) (name path : List ℕ) (found : FileCensus) (placed : Census) (folder : Bor (List ℕ))
    (answer : Result (Vec NewFile Global) FilesFault) → task.folder ≡ Some folder → IsPlacedCensus found.census placed
    → IfOk answer (λ files. AreCensusFiles folder.now rules task.reach.start name path found.origin placed files.items)
    → IfOk answer (λ files. AreFilesIfAsked task rules name path found files.items)
placed_files task rules name path found placed folder (Ok files) asked are made =
    subst (λ place. MatchOption place (files.items ≡ []) (λ folder. ArePlacedFiles folder.now rules task.reach.start name path found files.items)) (sym asked) (placed, are, made)
placed_files task rules name path found placed folder (Err fault) asked are made = tt

-- and why there are none of the one is why there are none of the other
pub no_placed_files : (task : CensusTask) (found : FileCensus) (placed : Census) (folder : Bor (List ℕ)) (answer : Result (Vec NewFile Global) FilesFault)
    → task.folder ≡ Some folder → IsPlacedCensus found.census placed → IfErr answer (HasNoFiles task.reach.start found.origin placed) → IfErr answer (HasNoFilesOf task found)
no_placed_files task found placed folder (Ok files) asked are why = tt
no_placed_files task found placed folder (Err fault) asked are why = no_files task found placed fault (λ none. some_none folder (sym asked ∙ none)) are why

-- why there are none of what came of a file is why there are none of the file
unfiled : (rules : KnownRules) (task : CensusTask) (subject : Subject) (outcome : CensusOutcome) (fault : FilesFault)
    → IsCensusOutcome rules task subject outcome → HasNoOutcomeFiles task outcome fault → IsUnfiled rules task subject fault
unfiled rules task subject outcome Memory is why = tt
unfiled rules task subject (Settled found) GenTooLarge is why = (found, is, why)
unfiled rules task subject (Settled found) Range is why = (found, is, why)
unfiled rules task subject Unsettled GenTooLarge is why = absurd why
unfiled rules task subject Unsettled Range is why = absurd why
unfiled rules task subject Unnameable GenTooLarge is why = absurd why
unfiled rules task subject Unnameable Range is why = absurd why
unfiled rules task subject (Refused report) GenTooLarge is why = absurd why
unfiled rules task subject (Refused report) Range is why = absurd why
unfiled rules task subject (FaultyRule rule) GenTooLarge is why = absurd why
unfiled rules task subject (FaultyRule rule) Range is why = absurd why

-- why there are none of what came of a file, whatever it answers, is why there are none of the file
pub unfiled_answer : {X : Type 0} (rules : KnownRules) (task : CensusTask) (subject : Subject) (outcome : CensusOutcome) (answer : Result X FilesFault)
    → IsCensusOutcome rules task subject outcome → IfErr answer (HasNoOutcomeFiles task outcome) → IfErr answer (IsUnfiled rules task subject)
unfiled_answer rules task subject outcome (Ok x) is why = tt
unfiled_answer rules task subject outcome (Err fault) is why = unfiled rules task subject outcome fault is why
