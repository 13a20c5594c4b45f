-- What holds of the picture that a sparse plane keeps.
use Rattle.std.specs.Prelude.{◌≤ℤ◌, neg_ℤ, map}
use Rattle.std.specs.List.{All}
use Rattle.std.specs.List.Sorted.{IsStrictlySortedBy}
use Rattle.std.specs.Ordering.{int_cmp, ordering_then}
use Rattle.std.specs.declared.cmp.Ordering.{Ordering}
use Rattle.ca_plane.specs.declared.point.Point.{Point}
use Rattle.ca_plane.specs.{Limits.reach, Plane.Picture, Plane.IsPicture}

-- the square in which a plane keeps its cells
abbrev pub IsInPlane : Point → Type 0
IsInPlane p = (neg_ℤ reach ≤ℤ p.x) × (p.x ≤ℤ reach) × (neg_ℤ reach ≤ℤ p.y) × (p.y ≤ℤ reach)

-- by y, and then by x: row by row from the top
abbrev pub point_cmp : Point → Point → Ordering
point_cmp a b = ordering_then (int_cmp a.y b.y) (int_cmp a.x b.x)

-- states from 1 to 255, in the square of a plane, at rising points, each once
pub record IsSparse (p : Picture) : Type 0 where
  pub states : IsPicture p
  pub places : All (λ e. IsInPlane e.0) p
  pub rising : IsStrictlySortedBy point_cmp (map (λ e. e.0) p)
