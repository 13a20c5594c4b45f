-- The cells of a picture that are still to come (our own).
use Rattle.std.specs.Prelude.{◌≡◌, ◌≢◌, ◌<◌, ◌≤◌, ℤ, length}
use Rattle.ca_plane.specs.declared.point.Point.{Point}
use Rattle.ca_plane.specs.Prelude.{Picture, cell, Sets}
use Rattle.ca_steps.specs.inner.Order.{IsBefore}

-- new is old without its cell at the point, if there is one
pub record IsWithout (old new : Picture) (at : Point) : Type 0 where
  pub cells : Sets old new at 0
  pub longer : length new ≤ length old
  pub fewer : cell old at.x at.y ≢ 0 → length new < length old

-- ahead shows exactly the cells of p that are read after (x, y)
pub record AreCellsAhead (p ahead : Picture) (x y : ℤ) : Type 0 where
  pub after : (u v : ℤ) → IsBefore x y u v → cell ahead u v ≡ cell p u v
  pub gone : (u v : ℤ) → (IsBefore x y u v → ⊥) → cell ahead u v ≡ 0
