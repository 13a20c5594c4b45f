-- What is judged of cells, and trees that are made planes.
use Rattle.std.specs.Prelude.{◌≡◌, ℤ, pos, neg_ℤ, ◌≤ℤ◌, ◌<ℤ◌, List, ◌⊎◌}
use Rattle.ca_plane.specs.Prelude.{Picture, range, IsSparse, HasFewCells}
use Rattle.ca_plane.specs.Plane as plane
use Rattle.ca_quad.specs.declared.{node.Node.Node, tree.Tree.Tree, tree.WideBounds.WideBounds}
use Rattle.ca_quad.specs.Prelude.{cell}

-- a sparse plane shows the tree's cells, which aren't too many
pub record IsPlaneOf (nodes : List Node) (tree : Tree) (picture : Picture) : Type 0 where
  pub shows : (x y : ℤ) → plane.cell picture x y ≡ cell nodes tree x y
  pub sparse : IsSparse picture
  pub few : HasFewCells (cell nodes tree)

-- all of a box lies where a file may have live cells
abbrev pub IsBoxInRange : WideBounds → Type 0
IsBoxInRange box = (neg_ℤ (pos range) ≤ℤ box.x0) × (box.x1 <ℤ pos range) × (neg_ℤ (pos range) ≤ℤ box.y0) × (box.y1 <ℤ pos range)

-- some side of it doesn't
abbrev pub IsBoxOutOfRange : WideBounds → Type 0
IsBoxOutOfRange box = (box.x0 <ℤ neg_ℤ (pos range)) ⊎ ((pos range ≤ℤ box.x1) ⊎ ((box.y0 <ℤ neg_ℤ (pos range)) ⊎ (pos range ≤ℤ box.y1)))
