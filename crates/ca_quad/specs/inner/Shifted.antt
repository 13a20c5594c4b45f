-- Trees with room to be moved in.
use Rattle.std.specs.Prelude.{◌≡◌, ℕ, ◌-◌, ◌≤◌, ◌^◌, ℤ, pos, neg_ℤ, ◌+ℤ◌, ◌≤ℤ◌, List}
use Rattle.ca_quad.specs.declared.{node.Node.Node, tree.Spot.Spot, tree.Tree.Tree, tree.WideBounds.WideBounds}
use Rattle.ca_quad.specs.Trees.{IsTree, cell, HoldsAll}

-- no more than the way in either direction
abbrev pub IsNoFarther : ℕ → ℤ → Type 0
IsNoFarther way distance = (neg_ℤ (pos way) ≤ℤ distance) × (distance ≤ℤ pos way)

-- an i64 in each direction
abbrev pub IsShort : Spot → Type 0
IsShort to = IsNoFarther (2 ^ 63) to.x × IsNoFarther (2 ^ 63) to.y

-- the tree has these cells and at least this level, and an eighth of its side is no less than the way
pub record HasRoom (nodes : List Node) (cells : ℤ → ℤ → ℕ) (level way : ℕ) (tree : Tree) : Type 0 where
  pub is_tree : IsTree nodes tree
  pub has_cells : (x y : ℤ) → cell nodes tree x y ≡ cells x y
  pub least : level ≤ tree.level
  pub most : tree.level ≤ 67
  pub room : way ≤ 2 ^ (tree.level - 3)

-- the live cells of the tree lie in its middle, a quarter of its side wide, and the place is no farther than an eighth of it
pub record CanMove (nodes : List Node) (tree : Tree) (to : Spot) : Type 0 where
  pub is_tree : IsTree nodes tree
  pub least : 3 ≤ tree.level
  pub most : tree.level ≤ 67
  pub holds : HoldsAll (tree.level - 2) (cell nodes tree)
  pub short : IsShort to
  pub near_x : IsNoFarther (2 ^ (tree.level - 3)) to.x
  pub near_y : IsNoFarther (2 ^ (tree.level - 3)) to.y

-- the box, when the origin is moved there
abbrev pub shifted_box : WideBounds → Spot → WideBounds
shifted_box box to = record { x0 = box.x0 +ℤ to.x; y0 = box.y0 +ℤ to.y; x1 = box.x1 +ℤ to.x; y1 = box.y1 +ℤ to.y }
