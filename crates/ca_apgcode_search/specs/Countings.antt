-- Planes that go by a counting of neighbours.
use Rattle.std.specs.Prelude.{ℕ, ◌<◌, ℤ, List, Option, Some, None}
use Rattle.ca_plane.specs.declared.counting.Counting.{Counting}
use Rattle.ca_bricks.specs.Prelude.{GoesBy}

-- no cell has another state than 0 and 1
abbrev pub HasTwoStates : (ℤ → ℤ → ℕ) → Type 0
HasTwoStates cells = (x y : ℤ) → cells x y < 2

-- if a counting is given, the rule goes by it, and no cell has another state than 0 and 1
abbrev pub MayGoBy : (List ℕ → ℕ) → (ℤ → ℤ → ℕ) → Option Counting → Type 0
MayGoBy next cells None = Unit {0}
MayGoBy next cells (Some counting) = GoesBy next counting × HasTwoStates cells
