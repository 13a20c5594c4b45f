-- Trees that are made planes, and why one is refused (the limits are our own).
use Rattle.std.specs.Prelude.{◌≡◌, ◌≢◌, ℕ, ℤ, List}
use Rattle.ca_plane.specs.Prelude.{Picture, IsInPlane, HasFewCells, HasTooManyCells}
use Rattle.ca_plane.specs.Plane as plane
use Rattle.ca_quad.specs.declared.{fault.QuadFault.QuadFault, node.Node.Node, tree.Tree.Tree}
use Rattle.ca_quad.specs.declared.fault.QuadFault.TheVariants.{Memory, TooManyCells, Range}
use Rattle.ca_quad.specs.Trees.{cell}

-- every live cell lies in the square of a plane
abbrev pub FitsPlane : (ℤ → ℤ → ℕ) → Type 0
FitsPlane cells = (x y : ℤ) → cells x y ≢ 0 → IsInPlane (record { y = y; x = x })

-- some live cell lies outside it
abbrev pub HasCellOutsidePlane : (ℤ → ℤ → ℕ) → Type 0
HasCellOutsidePlane cells = (x : ℤ) × (y : ℤ) × (cells x y ≢ 0) × (IsInPlane (record { y = y; x = x }) → ⊥)

-- a picture shows the cells of a tree, which aren't too many
pub record IsExpanded (nodes : List Node) (tree : Tree) (picture : Picture) : Type 0 where
  pub shows : (x y : ℤ) → plane.cell picture x y ≡ cell nodes tree x y
  pub few : HasFewCells (cell nodes tree)

-- why a tree isn't made a plane; memory may run out at any time
abbrev pub IsRefused : List Node → Tree → QuadFault → Type 0
IsRefused nodes tree Memory = Unit {0}
IsRefused nodes tree Range = HasCellOutsidePlane (cell nodes tree)
IsRefused nodes tree TooManyCells = FitsPlane (cell nodes tree) × HasTooManyCells (cell nodes tree)
