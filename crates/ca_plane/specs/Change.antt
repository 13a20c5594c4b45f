-- One write to a plane, and where two pictures differ.
use Rattle.std.specs.Prelude.{◌≡◌, ◌≢◌, ℕ, ℤ, ◌&&◌, if◌then◌else◌}
use Rattle.std.specs.Ordering.{int_eq}
use Rattle.ca_plane.specs.declared.point.Point.{Point}
use Rattle.ca_plane.specs.Plane.{Picture, cell}

-- new shows this state at the point, and old's cell everywhere else
abbrev pub Sets : Picture → Picture → Point → ℕ → Type 0
Sets old new at state = (x y : ℤ) → cell new x y ≡ (if int_eq y at.y && int_eq x at.x then state else cell old x y)

-- the two pictures show two different cells at the point
abbrev pub DifferAt : Picture → Picture → Point → Type 0
DifferAt p q at = cell p at.x at.y ≢ cell q at.x at.y
