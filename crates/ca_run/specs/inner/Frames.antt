-- Where the bricks of a box lie on the plane (our own). Each side is cut into pieces of 64 cells, which are counted
-- from -2^62 onwards: a piece of 64 by 64 cells has four rows of one brick.
use Rattle.std.specs.Prelude.{◌≡◌, ℕ, suc, ◌+◌, ◌*◌, ◌^◌, ◌<◌, ◌≤◌, ◌⊎◌, ℤ, pos, neg_ℤ, ◌+ℤ◌, ◌-ℤ◌, ◌<ℤ◌, ◌≤ℤ◌, List, length}
use Rattle.ca_quad.specs.declared.{node.Node.Node, tree.Tree.Tree, tree.WideBounds.WideBounds}
use Rattle.ca_quad.specs.Prelude.{IsTree}
use Rattle.ca_run.specs.declared.bricks.frame.{Span.Span, Frame.Frame}
use Rattle.ca_bricks.specs.declared.grid.BrickGrid.{BrickGrid}
use Rattle.ca_bricks.specs.Prelude.{HasMargin, IsAligned, LiesNearOrigin}

-- where a piece begins, and so a column of bricks
abbrev pub piece_start : ℕ → ℤ
piece_start k = pos (64 * k) -ℤ pos (2 ^ 62)

-- and a row of them
abbrev pub row_start : ℕ → ℤ
row_start j = pos (16 * j) -ℤ pos (2 ^ 62)

-- the coordinate lies in none of the pieces that hold a part of the box
abbrev pub IsOutOf : Span → ℤ → Type 0
IsOutOf span x = (x <ℤ piece_start span.low) ⊎ (piece_start (suc span.high) ≤ℤ x)

-- the box has a place, and lies near the origin
pub record IsNearBox (box : WideBounds) : Type 0 where
  pub west : neg_ℤ (pos (2 ^ 61)) ≤ℤ box.x0
  pub across : box.x0 ≤ℤ box.x1
  pub east : box.x1 ≤ℤ pos (2 ^ 61)
  pub north : neg_ℤ (pos (2 ^ 61)) ≤ℤ box.y0
  pub down : box.y0 ≤ℤ box.y1
  pub south : box.y1 ≤ℤ pos (2 ^ 61)

-- the pieces are two at least and not too many, and near enough
pub record IsSpan (span : Span) : Type 0 where
  pub wide : 2 ≤ span.count
  pub few : span.count ≤ 2 ^ 16
  pub far : span.first + span.count ≤ 2 ^ 57

-- those that hold a part of the box hold all from low to high, and the first and the last lie m cells and more than a piece beyond
pub record Spans (low high : ℤ) (m : ℕ) (span : Span) : Type 0 where
  pub from_low : piece_start span.low ≤ℤ low
  pub to_high : high <ℤ piece_start (suc span.high)
  pub before : (piece_start span.first +ℤ pos (64 + m)) ≤ℤ low
  pub behind : (high +ℤ pos (64 + m)) <ℤ piece_start (span.first + span.count)

-- a grid has at most 2 ^ 16 pieces of 64 by 64 cells
pub record IsGridFrame (frame : Frame) : Type 0 where
  pub columns : IsSpan frame.columns
  pub rows : IsSpan frame.rows
  pub few : frame.columns.count * frame.rows.count ≤ 2 ^ 16

-- the frame goes round all that is live of a plane, with a margin of m cells
pub record IsFramed (m : ℕ) (frame : Frame) (p : ℤ → ℤ → ℕ) : Type 0 where
  pub inside : (x y : ℤ) → IsOutOf frame.columns x ⊎ IsOutOf frame.rows y → p x y ≡ 0
  pub margin : HasMargin m frame.columns.count (4 * frame.rows.count) p (piece_start frame.columns.first) (piece_start frame.rows.first)

-- the grid lies in the frame, and has a brick for each place
pub record IsOfFrame (frame : Frame) (grid : BrickGrid) : Type 0 where
  pub x : grid.x ≡ piece_start frame.columns.first
  pub y : grid.y ≡ piece_start frame.rows.first
  pub across : grid.across ≡ frame.columns.count
  pub down : grid.down ≡ 4 * frame.rows.count
  pub size : length grid.bricks.items ≡ 4 * (frame.columns.count * frame.rows.count)

-- the grid, of which no brick was stepped, lies near the origin, a whole number of words from it, and has not too many bricks
pub record IsNewGrid (grid : BrickGrid) : Type 0 where
  pub near : LiesNearOrigin grid
  pub aligned : IsAligned grid
  pub room : grid.across + length grid.bricks.items < 2 ^ 63
  pub few : length grid.bricks.items ≤ 2 ^ 18
  pub unstepped : grid.work ≡ 0

-- the tree can be read brick by brick
pub record IsReadByBricks (nodes : List Node) (tree : Tree) : Type 0 where
  pub is_tree : IsTree nodes tree
  pub least : 7 ≤ tree.level
  pub greatest : tree.level ≤ 62
