-- The files that are supplied, by their paths.
use Rattle.std.specs.Prelude.{ℕ, List, [], ◌∷◌, map, Option, Some, None, if◌then◌else◌}
use Rattle.std.specs.Str.{bytes_eq}
use Rattle.ca_pattern.specs.declared.file.File.{File}

-- the path of each file, and its bytes
abbrev pub SuppliedFiles : Type 0
SuppliedFiles = List (List ℕ × List ℕ)

-- those of a call
abbrev pub contents : List File → SuppliedFiles
contents files = map (λ f. (f.path.now, f.bytes.now)) files

-- the bytes of the first file with this path
abbrev pub bytes_at : SuppliedFiles → List ℕ → Option (List ℕ)
bytes_at [] path = None
bytes_at (f ∷ fs) path = if bytes_eq f.0 path then Some f.1 else bytes_at fs path
