-- Files that were read, and those that weren't.
use Rattle.std.specs.Prelude.{◌≡◌, ◌⊎◌, ℕ, List, [], ◌∷◌, ◌++◌, Option, None, Some, IsSome, Bool, false, true, String, string_bytes, if◌then◌else◌}
use Rattle.std.specs.declared.alloc.Global.{Global}
use Rattle.std.specs.Str.{bytes_eq}
use Rattle.std.specs.List.{AllZip}
use Rattle.ca_text.specs.Prelude.{ClaimText, IsNeeded}
use Rattle.ca_report.specs.Outside.{lies_outside, path_in}
use Rattle.ca_report.specs.declared.absence.Absence.{Absence}
use Rattle.ca_report.specs.declared.absence.Absence.TheVariants.{Outside}
use Rattle.ca_host.specs.declared.files.{LoadedFile.LoadedFile, LostFile.LostFile, NeededFiles.NeededFiles}

-- the bytes of the first of some files with this path
abbrev pub bytes_at : List LoadedFile → List ℕ → Option (List ℕ)
bytes_at [] path = None
bytes_at (f ∷ fs) path = if bytes_eq f.path.items path then Some f.bytes.items else bytes_at fs path

-- what gives files by their paths: which bytes it may give at a path, and why it may give none
abbrev pub Gives : Type 1
Gives = List ℕ → List ℕ → Type 0

abbrev pub Lacks : Type 1
Lacks = List ℕ → Absence → Type 0

-- the path at which the file of a text's path is looked for: the path itself, or its place in the root, where there is one; none where it may lead out of that
abbrev pub place_of : Option (String Global) → List ℕ → Option (List ℕ)
place_of None path = Some path
place_of (Some root) path = if lies_outside path then None else Some (path_in (string_bytes root) path)

-- these may be the bytes at a place
abbrev pub IsFoundAt : Gives → Option (List ℕ) → List ℕ → Type 0
IsFoundAt gives None bytes = ⊥
IsFoundAt gives (Some place) bytes = gives place bytes

-- and this is why there are none
abbrev pub IsAbsentAt : Lacks → Option (List ℕ) → Absence → Type 0
IsAbsentAt lacks None why = why ≡ Outside
IsAbsentAt lacks (Some place) why = lacks place why

-- what becomes of a text's path: it isn't needed, or its file is read, or it isn't
pub data Outcome : Type 0 where
  Unneeded : Outcome
  Loaded : (file : LoadedFile) → Outcome
  Lost : (file : LostFile) → Outcome

-- this becomes of a needed path: the file at its place is read, or there is a reason why it isn't
abbrev pub IsOutcomeAt : Gives → Lacks → Option (String Global) → (path : List ℕ) → Outcome → Type 0
IsOutcomeAt gives lacks root path Unneeded = ⊥
IsOutcomeAt gives lacks root path (Loaded file) = (file.path.items ≡ path) × IsFoundAt gives (place_of root path) file.bytes.items
IsOutcomeAt gives lacks root path (Lost file) = (file.path.items ≡ path) × IsAbsentAt lacks (place_of root path) file.why

-- and this of one that is needed or isn't
abbrev pub IsOutcomeIf : Gives → Lacks → Option (String Global) → (path : List ℕ) → (is_needed : Bool) → Outcome → Type 0
IsOutcomeIf gives lacks root path true outcome = IsOutcomeAt gives lacks root path outcome
IsOutcomeIf gives lacks root path false outcome = outcome ≡ Unneeded

-- this becomes of a path of a text
abbrev pub IsOutcome : Gives → Lacks → Option (String Global) → ClaimText → (path : List ℕ) → Outcome → Type 0
IsOutcome gives lacks root claims path Unneeded = IsNeeded claims path → ⊥
IsOutcome gives lacks root claims path (Loaded file) = IsNeeded claims path × IsOutcomeAt gives lacks root path (Loaded file)
IsOutcome gives lacks root claims path (Lost file) = IsNeeded claims path × IsOutcomeAt gives lacks root path (Lost file)

-- the files that were read
abbrev pub loaded_files : List Outcome → List LoadedFile
loaded_files [] = []
loaded_files (Unneeded ∷ os) = loaded_files os
loaded_files (Loaded file ∷ os) = file ∷ loaded_files os
loaded_files (Lost file ∷ os) = loaded_files os

-- the files that weren't
abbrev pub lost_files : List Outcome → List LostFile
lost_files [] = []
lost_files (Unneeded ∷ os) = lost_files os
lost_files (Loaded file ∷ os) = lost_files os
lost_files (Lost file ∷ os) = file ∷ lost_files os

-- these are the files of the paths that a text needs, and no others, in the order of the paths: those that are read, and those that aren't
abbrev pub GathersFiles : Gives → Lacks → Option (String Global) → ClaimText → NeededFiles → Type 0
GathersFiles gives lacks root claims files =
    (outcomes : List Outcome) × AllZip (IsOutcome gives lacks root claims) claims.paths outcomes × (files.loaded.items ≡ loaded_files outcomes) × (files.missing.items ≡ lost_files outcomes)

-- where the path is needed there is one more file, which was read or wasn't, at the end
abbrev pub AddsOutcome : Gives → Lacks → Option (String Global) → (path : List ℕ) → (is_needed : Bool) → (old new : NeededFiles) → Type 0
AddsOutcome gives lacks root path is_needed old new =
    (outcome : Outcome) × IsOutcomeIf gives lacks root path is_needed outcome
    × (new.loaded.items ≡ old.loaded.items ++ loaded_files (outcome ∷ [])) × (new.missing.items ≡ old.missing.items ++ lost_files (outcome ∷ []))

-- there is one more file at the end, of this label: the bytes at the path
abbrev pub AddsFile : Gives → (path label : List ℕ) → (old new : List LoadedFile) → Type 0
AddsFile gives path label old new =
    (file : LoadedFile) × (file.path.items ≡ label) × gives path file.bytes.items × (new ≡ old ++ file ∷ [])

-- the file of a path is there once, under a label: it is there already, or isn't read, and nothing is added, or it is added
abbrev pub LoadsOnce : Gives → Lacks → (path label : List ℕ) → (old new : List LoadedFile) → Type 0
LoadsOnce gives lacks path label old new =
    (IsSome (bytes_at old label) × (new ≡ old))
    ⊎ ((bytes_at old label ≡ None) × (((why : Absence) × lacks path why × (new ≡ old)) ⊎ AddsFile gives path label old new))
