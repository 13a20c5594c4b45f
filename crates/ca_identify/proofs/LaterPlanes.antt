-- What is known of later planes.
use Rattle.std.proofs.Common.{Result, Ok, Err, ◌≡◌, List}
use Rattle.std.specs.Prelude.{OnErr, ℤ}
use Rattle.ca_plane.specs.Prelude.{Picture}
use Rattle.ca_plane.specs.Plane as plane
use Rattle.ca_quad.specs.declared.{node.Node.Node, tree.Tree.Tree}
use Rattle.ca_quad.specs.Trees as trees
use Rattle.ca_quad.proofs.LiveCells.{tree_population}
use Rattle.ca_pattern.proofs.LaterPlanes.{picture_of}

-- what holds anyhow holds where it fails
pub on_err : {T E : Type 0} (r : Result T E) (P : Type 0) → P → OnErr r P
on_err (Ok t) P is = tt
on_err (Err e) P is = is

-- so each tree has one
pub tree_picture : (nodes : List Node) (tree : Tree) → (picture : Picture) × ((x y : ℤ) → trees.cell nodes tree x y ≡ plane.cell picture x y)
tree_picture nodes tree = picture_of (trees.cell nodes tree) _ (tree_population nodes tree)
