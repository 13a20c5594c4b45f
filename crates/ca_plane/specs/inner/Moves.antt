-- Points that are moved, one by one.
use Rattle.std.specs.Prelude.{ℤ, ◌≤ℤ◌, neg_ℤ}
use Rattle.std.specs.List.{All}
use Rattle.ca_plane.specs.{Plane.Picture, Box.moved, Limits.reach, Sparse.IsInPlane}

-- each listed cell, moved by (dx, dy), stays in the square of a plane
abbrev pub StaysInPlane : Picture → ℤ → ℤ → Type 0
StaysInPlane cells dx dy = All (λ e. IsInPlane (moved e.0 dx dy)) cells

-- the coordinate is one of a plane
abbrev pub IsNear : ℤ → Type 0
IsNear n = (neg_ℤ reach ≤ℤ n) × (n ≤ℤ reach)
