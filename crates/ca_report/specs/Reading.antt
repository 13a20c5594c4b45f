-- What a call that reads a file takes of its device.
use Rattle.std.specs.Prelude.{◌≡◌, ◌≢◌, ℕ, ◌+◌, ◌<◌, ◌≤◌, ◌^◌, List, length, Option, Result, Err, IsErrOf}
use Rattle.std.specs.Io.KnownBytes.{Consumes, IsAtEnd}
use Rattle.ca_plane.specs.Prelude.{Counted, Rises}

-- the greatest length of a file: 67108864 bytes
abbrev pub max_file : ℕ
max_file = 2 ^ 26

-- a file was read: just what the reader gave, up to its end, and no more than a file may have
pub record ReadsAll (old new : Option (List ℕ)) (bytes : List ℕ) : Type 0 where
  pub given : Consumes old new bytes
  pub end : IsAtEnd new
  pub short : length bytes ≤ max_file

-- more bytes came than a file may have
abbrev pub GivesTooMany : Option (List ℕ) → Option (List ℕ) → Type 0
GivesTooMany old new = (bytes : List ℕ) × (max_file < length bytes) × Consumes old new bytes

-- some bytes came, and no more than a file may have
abbrev pub GivesSome : Option (List ℕ) → Option (List ℕ) → Type 0
GivesSome old new = (bytes : List ℕ) × (0 < length bytes) × (length bytes ≤ max_file) × Consumes old new bytes

-- at most this number of bytes was taken
abbrev pub TakesAtMost : ℕ → Option (List ℕ) → Option (List ℕ) → Type 0
TakesAtMost most old new = (bytes : List ℕ) × (length bytes ≤ most) × Consumes old new bytes

-- at most a byte more than a file may have was taken; a failed read is counted, and nothing else is
pub record TakesFile {R T E : Type 0} (remaining : R → Option (List ℕ)) (old new : Counted R) (failure : E) (result : Result T E) : Type 0 where
  pub bounded : TakesAtMost (max_file + 1) (remaining old.inner) (remaining new.inner)
  pub failed : IsErrOf result failure → Rises old.failures new.failures
  pub kept : result ≢ Err failure → new.failures ≡ old.failures
