-- Windows of the unbounded plane. At a scale of k, squares of 2^k by 2^k cells lie in columns and rows.
use Rattle.std.specs.Prelude.{◌≡◌, ℕ, ◌^◌, ◌≤◌, ℤ, pos, neg_ℤ, ◌+ℤ◌, ◌<ℤ◌, ◌≤ℤ◌}
use Rattle.std.specs.Int.{int_shr}
use Rattle.ca_quad.specs.declared.tree.{Spot.Spot, WideBounds.WideBounds}
use Rattle.ca_quad.specs.Prelude.{IsInWideBox}
use Rattle.ca_draw.specs.declared.window.Window.{Window}

-- the column in which an x lies, or the row in which a y lies: it divided by 2^scale, and rounded down
abbrev pub strip_of : ℕ → ℤ → ℤ
strip_of scale n = int_shr n scale

-- the cell at (x, y) is one of the square at this column and row
pub record IsInSquare (scale : ℕ) (column row : ℤ) (x y : ℤ) : Type 0 where
  pub is_column : strip_of scale x ≡ column
  pub is_row : strip_of scale y ≡ row

-- the cell at (x, y) is in one of a window's squares
pub record IsInWindow (window : Window) (x y : ℤ) : Type 0 where
  pub west : window.column ≤ℤ strip_of window.scale x
  pub east : strip_of window.scale x <ℤ (window.column +ℤ pos window.width)
  pub north : window.row ≤ℤ strip_of window.scale y
  pub south : strip_of window.scale y <ℤ (window.row +ℤ pos window.height)

-- the window is within the limits (our own): the scale is at most 124, there are 1 to 8192 columns and rows, and
-- these go from -2^124 to 2^124 - 1
pub record IsWindow (window : Window) : Type 0 where
  pub scale : window.scale ≤ 124
  pub some_columns : 1 ≤ window.width
  pub most_columns : window.width ≤ 8192
  pub west : neg_ℤ (pos (2 ^ 124)) ≤ℤ window.column
  pub east : (window.column +ℤ pos window.width) ≤ℤ pos (2 ^ 124)
  pub some_rows : 1 ≤ window.height
  pub most_rows : window.height ≤ 8192
  pub north : neg_ℤ (pos (2 ^ 124)) ≤ℤ window.row
  pub south : (window.row +ℤ pos window.height) ≤ℤ pos (2 ^ 124)

-- the window whose square in the north-west has this cell
abbrev pub window_at : Spot → ℕ → ℕ → ℕ → Window
window_at corner scale width height = record {
  scale = scale;
  column = strip_of scale corner.x;
  row = strip_of scale corner.y;
  width = width;
  height = height;
}

-- the box has cells
pub record IsBox (box : WideBounds) : Type 0 where
  pub x : box.x0 ≤ℤ box.x1
  pub y : box.y0 ≤ℤ box.y1

-- it is a box that a tree's cells may have: it lies as near to 0 as the largest tree's cells
pub record IsTreeBox (box : WideBounds) : Type 0 where
  pub west : neg_ℤ (pos (2 ^ 124)) ≤ℤ box.x0
  pub east : box.x1 <ℤ pos (2 ^ 124)
  pub north : neg_ℤ (pos (2 ^ 124)) ≤ℤ box.y0
  pub south : box.y1 <ℤ pos (2 ^ 124)

-- the window shows every cell of the box, in at most `columns` columns and `rows` rows
pub record ShowsBox (box : WideBounds) (columns rows : ℕ) (window : Window) : Type 0 where
  pub is_window : IsWindow window
  pub width : window.width ≤ columns
  pub height : window.height ≤ rows
  pub all : (x y : ℤ) → IsInWideBox box x y → IsInWindow window x y
