-- The order in which objects are listed and numbered (our own; docs/CLAIMS.md).
use Rattle.std.specs.Prelude.{◌≡◌, List, Bool, IsPermutation}
use Rattle.std.specs.List.Sorted.{IsSortedBy, IsStableBy}
use Rattle.std.specs.Ordering.{is_lt, int_cmp, ordering_then}
use Rattle.std.specs.declared.cmp.Ordering.{Ordering}
use Rattle.ca_plane.specs.declared.point.Bounds.{Bounds}
use Rattle.ca_census.specs.declared.{entry.CensusObject.CensusObject, census.Census.Census}

-- row by row from the top, and in a row by rising x, by the upper left corners of boxes
abbrev pub corner_cmp : Bounds → Bounds → Ordering
corner_cmp one other = ordering_then (int_cmp one.y0 other.y0) (int_cmp one.x0 other.x0)

abbrev pub stands_before : CensusObject → CensusObject → Bool
stands_before one other = is_lt (corner_cmp one.bounds other.bounds)

-- the objects by the corners of their boxes; those with equal corners stay in their order
pub record ArePlaced (objects placed : List CensusObject) : Type 0 where
  pub same : IsPermutation objects placed
  pub order : IsSortedBy stands_before placed
  pub stable : IsStableBy stands_before objects placed

-- the same census with its objects so
pub record IsPlacedCensus (census placed : Census) : Type 0 where
  pub generations : placed.generations ≡ census.generations
  pub plane : placed.plane ≡ census.plane
  pub objects : ArePlaced census.objects.items placed.objects.items
