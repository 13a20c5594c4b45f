-- Values that belong to squares.
use Rattle.std.specs.Prelude.{◌≢◌, ℕ, ◌==◌, List, Option, None}
use Rattle.std.specs.Map.{lookup}

-- the value of the square with this id, if it has one
abbrev pub square_value : {V : Type 0} → List (ℕ × V) → ℕ → Option V
square_value values id = lookup (λ (other : ℕ). id == other) values

-- each square that had a value has one
abbrev pub KeepValues : {V : Type 0} → List (ℕ × V) → List (ℕ × V) → Type 0
KeepValues old new = (id : ℕ) → square_value old id ≢ None → square_value new id ≢ None

-- where a square, or four together, have a value, so have their parts, of those that this relation means
abbrev pub IsClosedUnderParts : {Whole V : Type 0} → (Whole → Whole → Type 0) → (Whole → Option V) → Type 0
IsClosedUnderParts IsPart value = (whole part : _) → value whole ≢ None → IsPart whole part → value part ≢ None
