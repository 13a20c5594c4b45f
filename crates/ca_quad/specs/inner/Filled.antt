-- Cells of a plane that are gathered into squares.
use Rattle.std.specs.Prelude.{ℕ, ◌≤◌, ℤ, ◌^◌, pos, neg_ℤ, ◌+ℤ◌, ◌<ℤ◌, ◌≤ℤ◌, List}
use Rattle.ca_plane.specs.declared.point.Bounds.{Bounds}
use Rattle.ca_plane.specs.Prelude.{Picture, IsSparse}
use Rattle.ca_quad.specs.declared.{node.Node.Node, store.rows.Row.Row, tree.Spot.Spot}
use Rattle.ca_quad.specs.{Trees.ShowsSquare, inner.Ring.no_cells, inner.Rows.AreRows, inner.Rows.HoldCells}

-- the cells of a plane, counted from this place
abbrev pub cells_from : (ℤ → ℤ → ℕ) → Spot → ℕ → ℕ → ℕ
cells_from cells at x y = cells (at.x +ℤ pos x) (at.y +ℤ pos y)

-- this is the empty square of the level, which is from `least` to 65
pub record IsEmptyOf (nodes : List Node) (least level id : ℕ) : Type 0 where
  pub low : least ≤ level
  pub high : level ≤ 65
  pub shows : ShowsSquare nodes id level no_cells

-- a square of this side that lies there is far from the ends of an i128
pub record LiesNear (side : ℕ) (at : Spot) : Type 0 where
  pub left : neg_ℤ (pos (2 ^ 64)) ≤ℤ at.x
  pub right : (at.x +ℤ pos side) ≤ℤ pos (2 ^ 64)
  pub top : neg_ℤ (pos (2 ^ 64)) ≤ℤ at.y
  pub bottom : (at.y +ℤ pos side) ≤ℤ pos (2 ^ 64)

-- the rows hold all cells of the picture that lie in a square of this level, which lies near
pub record AreRowsOf (level : ℕ) (p : Picture) (rows : List Row) (at : Spot) : Type 0 where
  pub near : LiesNear (2 ^ level) at
  pub sparse : IsSparse p
  pub are_rows : AreRows p rows
  pub cover : HoldCells p rows (2 ^ level) at

-- a tree with this half of a side holds the box
abbrev pub HoldsBox : ℕ → Bounds → Type 0
HoldsBox half box = (neg_ℤ (pos half) ≤ℤ box.x0) × (box.x1 <ℤ pos half) × (neg_ℤ (pos half) ≤ℤ box.y0) × (box.y1 <ℤ pos half)
