-- Trees of patterns, advanced by some generations, moved and compared.
use Rattle.std.specs.Prelude.{◌≤◌, ◌^◌, ℤ, pos, neg_ℤ, ◌≤ℤ◌, List, ◌≡◌, ◌≢◌, ℕ}
use Rattle.ca_plane.specs.Prelude.{reach, most_generations, Picture, cells_after, IsInPlane}
use Rattle.ca_quad.specs.declared.{node.Node.Node, tree.Tree.Tree, tree.WideBounds.WideBounds}
use Rattle.ca_quad.specs.Prelude.{IsTree, cell, IsTrimmed, shifted_cells}
use Rattle.ca_plane.specs.Plane as plane
use Rattle.ca_macro.specs.Prelude.{AreInRange}

-- a coordinate in the square of a plane
abbrev pub IsWide : ℤ → Type 0
IsWide n = (neg_ℤ reach ≤ℤ n) × (n ≤ℤ reach)

-- a coordinate at most half as far from 0
abbrev pub IsBroad : ℤ → Type 0
IsBroad n = (neg_ℤ (pos (2 ^ 61)) ≤ℤ n) × (n ≤ℤ pos (2 ^ 61))

-- a tree of at most 2^63 cells a side
pub record IsLowTree (nodes : List Node) (tree : Tree) : Type 0 where
  pub is_tree : IsTree nodes tree
  pub low : tree.level ≤ 63

-- a picture shows the cells of a tree
abbrev pub ShowsTree : List Node → Tree → Picture → Type 0
ShowsTree nodes tree cells = (x y : ℤ) → plane.cell cells x y ≡ cell nodes tree x y

-- the tree of a pattern: a low one, no larger than it need be, whose live cells are in range
pub record IsPattern (nodes : List Node) (tree : Tree) : Type 0 where
  pub is_tree : IsTree nodes tree
  pub low : tree.level ≤ 63
  pub trimmed : IsTrimmed nodes tree
  pub range : AreInRange (cell nodes tree)

-- a pattern's tree, whose plane is advanced by n generations
pub record IsRun (nodes : List Node) (tree : Tree) (n : ℕ) : Type 0 where
  pub pattern : IsPattern nodes tree
  pub few : n ≤ most_generations

-- a tree with no live cell outside the square of a plane
pub record IsNearTree (nodes : List Node) (tree : Tree) : Type 0 where
  pub is_tree : IsTree nodes tree
  pub low : tree.level ≤ 124
  pub near : (x y : ℤ) → (IsInPlane (record { y = y; x = x }) → ⊥) → cell nodes tree x y ≡ 0

-- some cell is live
abbrev pub HasLive : (ℤ → ℤ → ℕ) → Type 0
HasLive cells = (x : ℤ) × (y : ℤ) × (cells x y ≢ 0)

-- a tree shows the cells of another one, moved by (dx, dy)
abbrev pub IsMove : List Node → (tree other : Tree) → ℤ → ℤ → Type 0
IsMove nodes tree other dx dy = (x y : ℤ) → cell nodes tree x y ≡ shifted_cells (cell nodes other) dx dy x y

-- no vector moves the other tree's cells onto the tree's
abbrev pub IsNoMove : List Node → (tree other : Tree) → Type 0
IsNoMove nodes tree other = (dx dy : ℤ) → IsMove nodes tree other dx dy → ⊥

-- no vector but this one does
abbrev pub IsOnlyMove : List Node → (tree other : Tree) → ℤ × ℤ → Type 0
IsOnlyMove nodes tree other v = (dx dy : ℤ) → IsMove nodes tree other dx dy → (dx ≡ v.0) × (dy ≡ v.1)

-- the tree shows the plane n generations after another tree's
pub record IsEndTree (next : List ℕ → ℕ) (old : List Node) (pattern : Tree) (n : ℕ) (nodes : List Node) (end : Tree) : Type 0 where
  pub near : IsNearTree nodes end
  pub shows : (x y : ℤ) → cell nodes end x y ≡ cells_after next (cell old pattern) n x y

-- the tree shows another's cells, moved by (dx, dy)
pub record IsMoved (old : List Node) (other : Tree) (dx dy : ℤ) (nodes : List Node) (tree : Tree) : Type 0 where
  pub near : IsNearTree nodes tree
  pub shows : (x y : ℤ) → cell nodes tree x y ≡ shifted_cells (cell old other) dx dy x y

-- the sides of the box lie in the square of a plane
pub record IsWideBox (box : WideBounds) : Type 0 where
  pub left : IsWide box.x0
  pub top : IsWide box.y0
  pub right : IsWide box.x1
  pub bottom : IsWide box.y1
