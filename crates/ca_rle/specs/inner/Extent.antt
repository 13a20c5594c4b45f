-- How far the items of an RLE text reach from the corner, and how the reader keeps that: each number is at most 2^64 - 1.
use Rattle.std.specs.Prelude.{◌≡◌, ℕ, ◌+◌, ◌≤◌, max, ℤ, pos, ◌+ℤ◌, ◌≤ℤ◌, List, [], ◌∷◌, ◌++◌, ◌==◌, ◌&&◌, if◌then◌else◌}
use Rattle.std.specs.List.{sum_by}
use Rattle.std.specs.Ordering.{int_eq}
use Rattle.ca_plane.specs.declared.point.Point.{Point}
use Rattle.ca_plane.specs.Prelude.{nearest_u64, Picture, longest_count, IsInRange, range}
use Rattle.ca_rle.specs.declared.{item.Item.Item, extent.Extent.Extent, extent.Offset.Offset}
use Rattle.ca_rle.specs.Shown.{tag_state, greatest_state, row_count, columns_of, run_of}

-- ---- what items show

-- the greatest count
abbrev pub longest_of : List Item → ℕ
longest_of [] = 0
longest_of (i ∷ is) = max i.count (longest_of is)

-- how many live cells an item has
abbrev pub live_count_of_item : Item → ℕ
live_count_of_item i = if tag_state i.tag == 0 then 0 else i.count

-- how many live cells the items have
abbrev pub live_count_of_items : List Item → ℕ
live_count_of_items is = sum_by live_count_of_item is

-- how many columns from the corner onwards an item's live cells take, after the items before it
abbrev pub columns_to : List Item → Item → ℕ
columns_to before i = if tag_state i.tag == 0 then 0 else columns_of before + i.count

-- how many rows
abbrev pub rows_to : List Item → Item → ℕ
rows_to before i = if tag_state i.tag == 0 then 0 else row_count before + 1

-- the greatest of these numbers, of items that stand after others
abbrev pub greatest_of : (List Item → Item → ℕ) → List Item → List Item → ℕ
greatest_of number before [] = 0
greatest_of number before (i ∷ is) = max (number before i) (greatest_of number (before ++ i ∷ []) is)

-- how many columns from the corner onwards the live cells of items take that stand after others
abbrev pub right_after : List Item → List Item → ℕ
right_after before is = greatest_of columns_to before is

-- how many rows
abbrev pub bottom_after : List Item → List Item → ℕ
bottom_after before is = greatest_of rows_to before is

-- ---- how it is kept

-- where the item after these begins
pub record IsOffsetOf (items : List Item) (offset : Offset) : Type 0 where
  pub rows : offset.rows ≡ nearest_u64 (row_count items)
  pub columns : offset.columns ≡ nearest_u64 (columns_of items)

-- how far these items reach
pub record IsItemsExtent (items : List Item) (extent : Extent) : Type 0 where
  pub longest : extent.longest ≡ nearest_u64 (longest_of items)
  pub right : extent.reach.columns ≡ nearest_u64 (right_after [] items)
  pub bottom : extent.reach.rows ≡ nearest_u64 (bottom_after [] items)
  pub cells : extent.cells ≡ nearest_u64 (live_count_of_items items)
  pub greatest : extent.greatest ≡ greatest_state items

-- items of this extent are in range from this corner
pub record IsExtentInRange (extent : Extent) (corner : Point) : Type 0 where
  pub counts : extent.longest ≤ longest_count
  pub start : IsInRange corner
  pub right : (corner.x +ℤ pos extent.reach.columns) ≤ℤ pos range
  pub bottom : (corner.y +ℤ pos extent.reach.rows) ≤ℤ pos range

-- ---- how an item is drawn

-- the point at an offset from the corner
abbrev pub point_from : Point → Offset → Point
point_from corner offset = record { y = corner.y +ℤ pos offset.rows; x = corner.x +ℤ pos offset.columns }

-- `count` cells from a point to the right are in range
abbrev pub HasRoomRight : Point → ℕ → Type 0
HasRoomRight at count = IsInRange at × ((at.x +ℤ pos count) ≤ℤ pos range)

-- the cells of an item that begins at a point
abbrev pub cells_from : Point → Item → Picture
cells_from at i = if tag_state i.tag == 0 then [] else run_of (tag_state i.tag) at i.count

-- the states of a plane over which the cells of a picture were drawn
abbrev pub drawn_over : Picture → (ℤ → ℤ → ℕ) → ℤ → ℤ → ℕ
drawn_over [] below x y = below x y
drawn_over (e ∷ es) below x y = if int_eq y e.0.y && int_eq x e.0.x then e.1 else drawn_over es below x y
