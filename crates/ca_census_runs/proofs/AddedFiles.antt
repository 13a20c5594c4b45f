-- Files that are added to a folder, and how a run ends where they aren't.
use Rattle.std.proofs.Common.{◌≡◌, ◌≢◌, ℕ, List, [], ◌++◌, Option, None, Some, Bor, sym, ap, ◌∙◌, append_assoc}
use Rattle.std.specs.Prelude.{MatchOption}
use Rattle.std.proofs.lemmas.List.{append-nil}
use Rattle.ca_identify_lines.specs.declared.{entry.Subject.Subject, known_rules.KnownRules.KnownRules}
use Rattle.ca_census_files.specs.Prelude.{NamedBytes, AddsFiles}
use Rattle.ca_census_files.specs.declared.{files.FilesFault.FilesFault, folder.FolderFault.FolderFault}
use Rattle.ca_census_files.specs.declared.files.FilesFault.TheVariants as reasons
use Rattle.ca_census_files.specs.declared.folder.FolderFault.TheVariants as folders
use Rattle.ca_census_runs.specs.declared.{task.CensusTask.CensusTask, outcome.CensusOutcome.CensusOutcome}
use Rattle.ca_census_runs.specs.declared.outcome.CensusOutcome.TheVariants.{Settled, Unsettled, Unnameable, Refused, FaultyRule}
use Rattle.ca_census_runs.specs.Prelude.{FileTold, TellsFile, TellsOutcome, ArePlacedFiles, IsCensusOutcome, IsUnfiled, HasFiles, EndsAt}
use Rattle.ca_census_runs.specs.inner.Tasks.{fault_of_files, fault_of_folder}

-- none are added
pub adds_none : (files : Option (List NamedBytes)) → AddsFiles files files []
adds_none None = tt
adds_none (Some files) = (sym (append-nil files), λ own. own)

-- some are added, and then others
pub adds_both : (old mid new : Option (List NamedBytes)) (xs ys : List NamedBytes) → AddsFiles old mid xs → AddsFiles mid new ys → AddsFiles old new (xs ++ ys)
adds_both None mid new xs ys first second = tt
adds_both (Some old) None new xs ys first second = absurd first
adds_both (Some old) (Some mid) None xs ys first second = absurd second
adds_both (Some old) (Some mid) (Some new) xs ys first second =
    (second.0 ∙ ap (λ l. l ++ ys) first.0 ∙ append_assoc old xs ys, λ own. second.1 (first.1 own))

-- some thing is not none
pub some_none : {X : Type 0} (x : X) → Some x ≡ None → ⊥
some_none x same = cc

-- where what came of a file has files, it has a census of which files are asked for
asked : (rules : KnownRules) (task : CensusTask) (subject : Subject) (outcome : CensusOutcome) (told : FileTold) → IsCensusOutcome rules task subject outcome
    → TellsOutcome task rules.paths.now subject.path.now outcome told → told.files ≢ [] → HasFiles rules task subject
asked rules task subject (Settled found) told is tells some = (λ none. some (no_folder task.folder none tells.2), found, is)
  where
    no_folder : (folder : Option (Bor (List ℕ))) → folder ≡ None
        → MatchOption folder (told.files ≡ []) (λ folder. ArePlacedFiles folder.now rules.paths.now task.reach.start told.name subject.path.now found told.files) → told.files ≡ []
    no_folder None none files = files
    no_folder (Some folder) none files = absurd (some_none folder none)
asked rules task subject Unsettled told is tells some = absurd (some tells.2)
asked rules task subject Unnameable told is tells some = absurd (some tells.6)
asked rules task subject (Refused why) told is tells some = absurd (some tells.6)
asked rules task subject (FaultyRule rule) told is tells some = absurd (some tells.6)

-- the same of what is told of the file
pub has_files : (rules : KnownRules) (task : CensusTask) (taken : List (List ℕ)) (subject : Subject) (told : FileTold) → TellsFile rules task taken subject told
    → told.files ≢ [] → HasFiles rules task subject
has_files rules task taken subject told tells some = asked rules task subject tells.outcome told tells.true_of tells.tells some

-- so the run may end at it where they aren't added
pub ends_unadded : (rules : KnownRules) (task : CensusTask) (index : ℕ) (subject : Subject) (fault : FolderFault) → HasFiles rules task subject
    → EndsAt rules task (fault_of_folder fault) index subject
ends_unadded rules task index subject folders.Taken has = has
ends_unadded rules task index subject folders.Unwritten has = has
ends_unadded rules task index subject folders.Memory has = tt

-- or where there are none of its census
pub ends_unfiled : (rules : KnownRules) (task : CensusTask) (at index : ℕ) (subject : Subject) (fault : FilesFault) → at ≡ index → IsUnfiled rules task subject fault
    → EndsAt rules task (fault_of_files fault at) index subject
ends_unfiled rules task at index subject reasons.GenTooLarge is why = (is, why)
ends_unfiled rules task at index subject reasons.Range is why = (is, why)
ends_unfiled rules task at index subject reasons.Memory is why = tt
