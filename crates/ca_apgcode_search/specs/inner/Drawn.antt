-- Planes' cells that are put into boxes.
use Rattle.std.specs.Prelude.{◌≡◌, ◌≢◌, ℕ, ◌≤◌, ◌⊎◌, ℤ, pos, ◌+ℤ◌, ◌<ℤ◌, ◌≤ℤ◌, List, length}
use Rattle.ca_plane.specs.declared.point.Point.{Point}
use Rattle.ca_plane.specs.Prelude.{Picture}
use Rattle.ca_plane.specs.Plane as plane
use Rattle.ca_quad.specs.declared.tree.WideBounds.{WideBounds}
use Rattle.ca_apgcode.specs.Prelude.{GridCells, IsGrid, MakesLive, cell, live, IsTurnedText}
use Rattle.ca_apgcode_search.specs.declared.drawing.Window.{Window}

-- in no orientation the plane has a text, since its smallest box is larger than 40 by 40, or there is none
abbrev pub HasNoText : (ℤ → ℤ → ℕ) → Type 0
HasNoText cells = (text : List ℕ) → IsTurnedText cells text → ⊥

-- the box has more than 40 columns or rows
abbrev pub IsLarge : WideBounds → Type 0
IsLarge box = ((box.x0 +ℤ pos 40) ≤ℤ box.x1) ⊎ ((box.y0 +ℤ pos 40) ≤ℤ box.y1)

-- the window is this box, of at most 40 columns and rows
pub record IsWindowOf (box : WideBounds) (window : Window) : Type 0 where
  pub x0 : window.x0 ≡ box.x0
  pub y0 : window.y0 ≡ box.y0
  pub x1 : box.x1 +ℤ pos 1 ≡ window.x0 +ℤ pos window.width
  pub y1 : box.y1 +ℤ pos 1 ≡ window.y0 +ℤ pos window.height
  pub narrow : window.width ≤ 40
  pub low : window.height ≤ 40

-- the place lies in the window
pub record IsInWindow (window : Window) (x y : ℤ) : Type 0 where
  pub left : window.x0 ≤ℤ x
  pub right : x <ℤ (window.x0 +ℤ pos window.width)
  pub top : window.y0 ≤ℤ y
  pub bottom : y <ℤ (window.y0 +ℤ pos window.height)

-- the grid is as large as the window
pub record FitsWindow (window : Window) (grid : GridCells) : Type 0 where
  pub is_grid : IsGrid grid
  pub width : length grid.columns ≡ window.width
  pub height : grid.height ≡ window.height

-- the place is a column and a row of the window
pub record IsPlace (window : Window) (at : Point) (u v : ℕ) : Type 0 where
  pub x : at.x ≡ window.x0 +ℤ pos u
  pub y : at.y ≡ window.y0 +ℤ pos v

-- the cell of the place is live now
pub record PutsCell (window : Window) (at : Point) (old new : GridCells) : Type 0 where
  pub u : ℕ
  pub v : ℕ
  pub place : IsPlace window at u v
  pub makes : MakesLive old new u v

-- the cell of the place is live in the grid
pub record IsLiveAt (window : Window) (grid : GridCells) (at : Point) : Type 0 where
  pub u : ℕ
  pub v : ℕ
  pub place : IsPlace window at u v
  pub lives : cell grid u v ≡ 1

-- each live cell of the grid is one of the plane
abbrev pub ShowsNoOther : Picture → Window → GridCells → Type 0
ShowsNoOther cells window grid = (u v : ℕ) → cell grid u v ≡ 1 → plane.cell cells (window.x0 +ℤ pos u) (window.y0 +ℤ pos v) ≢ 0

-- the grid, which is as large as the window, has just the live cells of the plane
pub record IsDrawn (cells : Picture) (window : Window) (grid : GridCells) : Type 0 where
  pub fits : FitsWindow window grid
  pub same : (u v : ℕ) → cell grid u v ≡ live (plane.cell cells (window.x0 +ℤ pos u) (window.y0 +ℤ pos v))
