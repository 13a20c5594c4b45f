-- Boxes, and the square in which a plane keeps its cells.
use Rattle.std.specs.Prelude.{◌⊎◌, neg_ℤ, ◌≤ℤ◌, ◌<ℤ◌}
use Rattle.ca_plane.specs.Prelude.{reach}
use Rattle.ca_quad.specs.declared.tree.WideBounds.{WideBounds}

-- the box lies in it
abbrev pub IsBoxInReach : WideBounds → Type 0
IsBoxInReach box = (neg_ℤ reach ≤ℤ box.x0) × (box.x1 ≤ℤ reach) × (neg_ℤ reach ≤ℤ box.y0) × (box.y1 ≤ℤ reach)

-- one of its sides lies outside
abbrev pub IsBoxOutOfReach : WideBounds → Type 0
IsBoxOutOfReach box = (box.x0 <ℤ neg_ℤ reach) ⊎ ((reach <ℤ box.x1) ⊎ ((box.y0 <ℤ neg_ℤ reach) ⊎ (reach <ℤ box.y1)))
