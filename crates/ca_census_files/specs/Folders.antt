-- Files that are added to a folder (our own).
use Rattle.std.specs.Prelude.{◌≡◌, ℕ, List, ◌++◌, map, Option, Some, None, ⊤}
use Rattle.std.specs.List.{IsDistinct}
use Rattle.std.specs.Str.{bytes_eq}
use Rattle.ca_census_files.specs.declared.folder.NewFile.{NewFile}

-- the name of a file, and its bytes
pub record NamedBytes : Type 0 where
  pub name : List ℕ
  pub bytes : List ℕ

-- those of a file that is to be added
abbrev pub named_bytes : NewFile → NamedBytes
named_bytes file = record { name = file.name.items; bytes = file.bytes.items }

-- no two files have one name
abbrev pub HaveOwnNames : List NamedBytes → Type 0
HaveOwnNames files = IsDistinct bytes_eq (map (λ file. file.name) files)

-- these files are added after those before, where files are known; so none is changed, and names stay different
abbrev pub AddsFiles : (old new : Option (List NamedBytes)) → List NamedBytes → Type 0
AddsFiles None new files = ⊤
AddsFiles (Some before) None files = ⊥
AddsFiles (Some before) (Some after) files = (after ≡ before ++ files) × (HaveOwnNames before → HaveOwnNames after)
