-- What an opened file or standard input still gives.
use Rattle.std.specs.Prelude.{◌≡◌, ◌≢◌, ℕ, List, Option, None, codes}
use Rattle.ca_host.specs.declared.streams.Source.{Source}
use Rattle.ca_host.specs.declared.streams.Source.TheVariants.{File, Input}

-- what the file gives, by what is told of such files; standard input tells nothing of its bytes
abbrev pub source_remaining : {F : Type 0} → (F → Option (List ℕ)) → Source F → Option (List ℕ)
source_remaining remaining (File file) = remaining file
source_remaining remaining (Input input) = None

-- standard input is what a path is read from exactly where the path is `-`
abbrev pub IsSourceOf : {F : Type 0} → List ℕ → Source F → Type 0
IsSourceOf path (File file) = path ≢ codes "-"
IsSourceOf path (Input input) = path ≡ codes "-"
