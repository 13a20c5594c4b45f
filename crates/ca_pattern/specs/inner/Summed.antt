-- What is reported of a pattern.
use Rattle.std.specs.Prelude.{◌≡◌, ℕ, ℤ, neg_ℤ, ◌≤ℤ◌, MatchOption}
use Rattle.ca_plane.specs.Prelude.{Picture, IsLive, IsLeastBox, HasPopulation, reach}
use Rattle.ca_plane.specs.Plane as plane
use Rattle.ca_quad.specs.declared.tree.WideBounds.{WideBounds}
use Rattle.ca_pattern.specs.declared.cells.Extent.{Extent}

-- a coordinate of a live cell
abbrev pub IsCoordinate : ℤ → Type 0
IsCoordinate n = (neg_ℤ reach ≤ℤ n) × (n ≤ℤ reach)

-- the sides of the box are those of live cells
pub record AreNearBounds (bounds : WideBounds) : Type 0 where
  pub x0 : IsCoordinate bounds.x0
  pub y0 : IsCoordinate bounds.y0
  pub x1 : IsCoordinate bounds.x1
  pub y1 : IsCoordinate bounds.y1

-- `extent.cells` cells are live, and these are the bounds of the live ones
pub record IsExtentOf (cells : ℤ → ℤ → ℕ) (extent : Extent) : Type 0 where
  pub population : HasPopulation cells extent.cells
  pub bounds : (picture : Picture) → ((x y : ℤ) → cells x y ≡ plane.cell picture x y) → MatchOption extent.bounds (IsLive picture → ⊥) (IsLeastBox picture)
