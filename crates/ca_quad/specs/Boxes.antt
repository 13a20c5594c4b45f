-- The smallest box round the live cells of a tree, and of a square.
use Rattle.std.specs.Prelude.{◌≡◌, ◌≢◌, ℕ, ℤ, ◌≤ℤ◌, List, Option}
use Rattle.ca_quad.specs.declared.{node.Node.Node, store.extent.Extent.Extent, tree.WideBounds.WideBounds}
use Rattle.ca_quad.specs.{inner.Extent.IsSquareExtent, inner.Measure.AreMeasures}

-- every cell is 0
abbrev pub IsDead : (ℤ → ℤ → ℕ) → Type 0
IsDead cells = (x y : ℤ) → cells x y ≡ 0

-- the place is in the box, both ends included
abbrev pub IsInWideBox : WideBounds → ℤ → ℤ → Type 0
IsInWideBox box x y = (box.x0 ≤ℤ x) × (x ≤ℤ box.x1) × (box.y0 ≤ℤ y) × (y ≤ℤ box.y1)

-- the smallest box round the live cells: they are all in it, and one lies on each of its sides
pub record IsLeastWideBox (cells : ℤ → ℤ → ℕ) (box : WideBounds) : Type 0 where
  pub all : (x y : ℤ) → cells x y ≢ 0 → IsInWideBox box x y
  pub left : (y : ℤ) × (cells box.x0 y ≢ 0)
  pub right : (y : ℤ) × (cells box.x1 y ≢ 0)
  pub top : (x : ℤ) × (cells x box.y0 ≢ 0)
  pub bottom : (x : ℤ) × (cells x box.y1 ≢ 0)

-- each of these boxes is that of one of these squares: the smallest round its live cells, or none if there are none
abbrev pub AreSquareBoxes : List Node → List (ℕ × Option Extent) → Type 0
AreSquareBoxes nodes boxes = AreMeasures (λ cells side found. IsSquareExtent cells side side found) nodes boxes
