-- The smallest box round the live cells, and planes that are moved.
use Rattle.std.specs.Prelude.{◌≢◌, ℕ, ℤ, pos, ◌≤ℤ◌, ◌+ℤ◌, ◌-ℤ◌}
use Rattle.ca_plane.specs.declared.point.{Point.Point, Bounds.Bounds}
use Rattle.ca_plane.specs.{Plane.Picture, Plane.cell, Sparse.IsInPlane}

-- the place is in the box, both ends included
abbrev pub IsInBox : Bounds → ℤ → ℤ → Type 0
IsInBox box x y = (box.x0 ≤ℤ x) × (x ≤ℤ box.x1) × (box.y0 ≤ℤ y) × (y ≤ℤ box.y1)

-- (u, v) lies within n of (x, y) in each direction
abbrev pub IsWithin : ℕ → ℤ → ℤ → ℤ → ℤ → Type 0
IsWithin n x y u v = IsInBox (record { x0 = x -ℤ pos n; y0 = y -ℤ pos n; x1 = x +ℤ pos n; y1 = y +ℤ pos n }) u v

-- the smallest box round the live cells: they are all in it, and one lies on each of its sides
pub record IsLeastBox (cells : Picture) (box : Bounds) : Type 0 where
  pub all : (x y : ℤ) → cell cells x y ≢ 0 → IsInBox box x y
  pub left : (y : ℤ) × (cell cells box.x0 y ≢ 0)
  pub right : (y : ℤ) × (cell cells box.x1 y ≢ 0)
  pub top : (x : ℤ) × (cell cells x box.y0 ≢ 0)
  pub bottom : (x : ℤ) × (cell cells x box.y1 ≢ 0)

-- some live cell, moved by (dx, dy), lies outside the square of a plane
abbrev pub LeavesPlane : Picture → ℤ → ℤ → Type 0
LeavesPlane cells dx dy = (x : ℤ) × (y : ℤ) × (cell cells x y ≢ 0) × (IsInPlane (record { y = y +ℤ dy; x = x +ℤ dx }) → ⊥)

-- the point moved by (dx, dy)
abbrev pub moved : Point → ℤ → ℤ → Point
moved at dx dy = record { y = at.y +ℤ dy; x = at.x +ℤ dx }
