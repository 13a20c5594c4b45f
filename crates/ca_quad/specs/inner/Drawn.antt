-- Live cells that are collected, square by square.
use Rattle.std.specs.Prelude.{◌≡◌, ◌≢◌, ℕ, ◌-◌, ◌^◌, ◌⊎◌, ℤ, pos, neg_ℤ, ◌+ℤ◌, ◌-ℤ◌, ◌≤ℤ◌, List, [], ◌∷◌}
use Rattle.std.specs.List.{All}
use Rattle.ca_plane.specs.Prelude.{Picture, cell, from_corner}
use Rattle.ca_quad.specs.declared.{node.Node.Node, store.draw.Halves.Halves, store.draw.PlacedSquare.PlacedSquare, store.to_plane.Corners.Corners, tree.Spot.Spot}
use Rattle.ca_quad.specs.{Squares.level_of, Squares.IsOf, Squares.cell_of, Expanded.FitsPlane}

-- the cells of an id's square
abbrev pub square_cells : List Node → ℕ → ℕ → ℕ → ℕ
square_cells nodes id = cell_of nodes (level_of nodes id) id

-- and its side
abbrev pub side_of : List Node → ℕ → ℕ
side_of nodes id = 2 ^ level_of nodes id

-- the cells of a square whose corner lies there
abbrev pub cells_at_corner : (ℕ → ℕ → ℕ) → Spot → ℤ → ℤ → ℕ
cells_at_corner cells at x y = from_corner cells (x -ℤ at.x) (y -ℤ at.y)

-- no sum of the place's coordinates with a side leaves an i128
abbrev pub IsNearSpot : Spot → Type 0
IsNearSpot at = (neg_ℤ (pos (2 ^ 124)) ≤ℤ at.x) × (at.x ≤ℤ pos (2 ^ 124)) × (neg_ℤ (pos (2 ^ 124)) ≤ℤ at.y) × (at.y ≤ℤ pos (2 ^ 124))

-- a square of this side may be drawn there: it lies near, and each live cell in the square of a plane
pub record CanDraw (cells : ℕ → ℕ → ℕ) (side : ℕ) (at : Spot) : Type 0 where
  pub left : neg_ℤ (pos (2 ^ 124)) ≤ℤ at.x
  pub right : (at.x +ℤ pos side) ≤ℤ pos (2 ^ 124)
  pub top : neg_ℤ (pos (2 ^ 124)) ≤ℤ at.y
  pub bottom : (at.y +ℤ pos side) ≤ℤ pos (2 ^ 124)
  pub fits : FitsPlane (cells_at_corner cells at)

-- the corners of the parts of a square, where the parts have this side
pub record ArePartCorners (at : Spot) (side : ℕ) (corners : Corners) : Type 0 where
  pub ne_x : corners.ne.x ≡ at.x +ℤ pos side
  pub ne_y : corners.ne.y ≡ at.y
  pub sw_x : corners.sw.x ≡ at.x
  pub sw_y : corners.sw.y ≡ at.y +ℤ pos side
  pub se_x : corners.se.x ≡ at.x +ℤ pos side
  pub se_y : corners.se.y ≡ at.y +ℤ pos side

-- where the cells are live, these are the same
abbrev pub Agrees : (ℤ → ℤ → ℕ) → (ℤ → ℤ → ℕ) → Type 0
Agrees all cells = (x y : ℤ) → cells x y ≢ 0 → cells x y ≡ all x y

-- the cells of a square, at its place
abbrev pub placed_cells : List Node → PlacedSquare → ℤ → ℤ → ℕ
placed_cells nodes square = cells_at_corner (square_cells nodes square.id) square.at

-- a square of this level may be drawn, and shows some of these cells
pub record IsReadyToDraw (nodes : List Node) (all : ℤ → ℤ → ℕ) (level : ℕ) (square : PlacedSquare) : Type 0 where
  pub is_square : IsOf nodes square.id level
  pub can : CanDraw (square_cells nodes square.id) (side_of nodes square.id) square.at
  pub agrees : Agrees all (placed_cells nodes square)

-- each of the squares is
abbrev pub AreReady : List Node → (ℤ → ℤ → ℕ) → ℕ → List PlacedSquare → Type 0
AreReady nodes all level squares = All (IsReadyToDraw nodes all level) squares

-- the cell is live
abbrev pub IsLiveAt : (ℤ → ℤ → ℕ) → ℤ → ℤ → Type 0
IsLiveAt cells x y = cells x y ≢ 0

-- one of the squares has a live cell there
abbrev pub IsLiveIn : List Node → List PlacedSquare → ℤ → ℤ → Type 0
IsLiveIn nodes [] x y = ⊥
IsLiveIn nodes (s ∷ ss) x y = IsLiveAt (placed_cells nodes s) x y ⊎ IsLiveIn nodes ss x y

-- the same of the upper row of each square, or of the next one
abbrev pub IsLiveInRow : List Node → ℕ → List PlacedSquare → ℤ → ℤ → Type 0
IsLiveInRow nodes row [] x y = ⊥
IsLiveInRow nodes row (s ∷ ss) x y = (IsLiveAt (placed_cells nodes s) x y × (y ≡ s.at.y +ℤ pos row)) ⊎ IsLiveInRow nodes row ss x y

-- these cells were written, and no right one was lost
pub record Paints (all : ℤ → ℤ → ℕ) (old new : Picture) (live : ℤ → ℤ → Type 0) : Type 0 where
  pub kept : (x y : ℤ) → cell old x y ≡ all x y → cell new x y ≡ all x y
  pub put : (x y : ℤ) → live x y → cell new x y ≡ all x y

-- a square came to the others, unless it has no live cell
pub record IsAdded (nodes : List Node) (square : PlacedSquare) (old new : List PlacedSquare) : Type 0 where
  pub live : (x y : ℤ) → IsLiveIn nodes old x y ⊎ IsLiveAt (placed_cells nodes square) x y → IsLiveIn nodes new x y
  pub ready : (all : ℤ → ℤ → ℕ) (level : ℕ) → AreReady nodes all level old → IsReadyToDraw nodes all level square → AreReady nodes all level new

-- the parts of a square of this level came to the halves
pub record ArePushed (nodes : List Node) (level : ℕ) (square : PlacedSquare) (old new : Halves) : Type 0 where
  pub live : (x y : ℤ) → (IsLiveIn nodes old.north.items x y ⊎ IsLiveIn nodes old.south.items x y) ⊎ IsLiveAt (placed_cells nodes square) x y → IsLiveIn nodes new.north.items x y ⊎ IsLiveIn nodes new.south.items x y
  pub ready : (all : ℤ → ℤ → ℕ) → IsReadyToDraw nodes all level square → AreReady nodes all (level - 1) old.north.items × AreReady nodes all (level - 1) old.south.items
      → AreReady nodes all (level - 1) new.north.items × AreReady nodes all (level - 1) new.south.items

-- the halves have all live cells of the squares
pub record AreHalves (nodes : List Node) (level : ℕ) (squares : List PlacedSquare) (halves : Halves) : Type 0 where
  pub live : (x y : ℤ) → IsLiveIn nodes squares x y → IsLiveIn nodes halves.north.items x y ⊎ IsLiveIn nodes halves.south.items x y
  pub ready : (all : ℤ → ℤ → ℕ) → AreReady nodes all level squares → AreReady nodes all (level - 1) halves.north.items × AreReady nodes all (level - 1) halves.south.items
