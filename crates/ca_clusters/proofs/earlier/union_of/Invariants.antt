use Rattle.std.proofs.Common.{◌≡◌, map, take}
use Rattle.std.specs.Prelude.{ℤ}
use Rattle.std.specs.List.{All, AllPairs}
use Rattle.ca_plane.specs.Prelude.{cell, IsPicture, IsInPlane}
use Rattle.ca_parts.specs.Prelude.{together}
use Rattle.ca_clusters.specs.Clusters.{first_plane}
use Rattle.ca_clusters.proofs.ApartCourses.{BeginApart}
use Rattle.ca_clusters.proofs.earlier.union_of.Given as goal

-- the cells so far are those of the first planes so far, where these are apart
abbrev pub invariant-courses : goal.invariant-courses
invariant-courses l = record {
  states : IsPicture l.cells.items;
  places : All (λ e. IsInPlane e.0) l.cells.items;
  shown : AllPairs BeginApart l.courses → (x y : ℤ) → cell l.cells.items x y ≡ together (map first_plane (take l.course-index l.courses)) x y;
}
