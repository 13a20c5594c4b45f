-- Phases that planes show.
use Rattle.std.specs.Prelude.{◌≡◌, ℕ, ◌<◌, ℤ, List, [], length, slice_index_or}
use Rattle.ca_plane.specs.Prelude.{Picture, cell}

-- the planes show the first phases, one after the other
abbrev pub ShowPhases : List Picture → (ℕ → ℤ → ℤ → ℕ) → Type 0
ShowPhases planes phases = (k : ℕ) → k < length planes → (x y : ℤ) → phases k x y ≡ cell (slice_index_or planes k []) x y
