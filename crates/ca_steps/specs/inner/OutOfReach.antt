-- Live cells from which no step is taken (our own).
use Rattle.std.specs.Prelude.{◌≢◌, ℤ}
use Rattle.ca_plane.specs.Prelude.{Picture, cell}
use Rattle.ca_steps.specs.Reach.{IsInReach}

-- some live cell lies where no step is taken from it
abbrev pub IsOutOfReach : Picture → Type 0
IsOutOfReach p = (x : ℤ) × (y : ℤ) × (cell p x y ≢ 0) × (IsInReach x y → ⊥)
