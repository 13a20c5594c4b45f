-- The vector from one point to another (our own).
use Rattle.std.specs.Prelude.{◌≡◌, ◌+ℤ◌}
use Rattle.ca_plane.specs.declared.point.Point.{Point}
use Rattle.ca_clusters.specs.declared.shift.Shift.{Shift}

-- the second point is the first one, moved
pub record IsShift (from to : Point) (shift : Shift) : Type 0 where
  pub across : to.x ≡ from.x +ℤ shift.dx
  pub down : to.y ≡ from.y +ℤ shift.dy
