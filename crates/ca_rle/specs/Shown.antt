-- The picture of a list of items, by sums over the items before each (Golly Help, File Formats: Extended RLE format).
use Rattle.std.specs.Prelude.{ℕ, max, pos, ◌+ℤ◌, List, [], ◌∷◌, ◌++◌, map, Bool, true, false, ◌==◌, if◌then◌else◌}
use Rattle.std.specs.List.{sum_by, after_last, range_with_len}
use Rattle.ca_plane.specs.declared.point.Point.{Point}
use Rattle.ca_plane.specs.Prelude.{Picture}
use Rattle.ca_rle.specs.declared.item.{Item.Item, Tag.Tag}
use Rattle.ca_rle.specs.declared.item.Tag.TheVariants.{Cell, RowEnd}

-- whether a tag ends a row
abbrev pub ends_row : Tag → Bool
ends_row (Cell state) = false
ends_row RowEnd = true

-- the state of a tag's cells; a row end has none
abbrev pub tag_state : Tag → ℕ
tag_state (Cell state) = state
tag_state RowEnd = 0

-- the greatest state of any item's cells, 0 where there are none
abbrev pub greatest_state : List Item → ℕ
greatest_state [] = 0
greatest_state (i ∷ is) = max (tag_state i.tag) (greatest_state is)

-- how many rows down the items lead: the sum of the counts of all row ends
abbrev pub row_count : List Item → ℕ
row_count items = sum_by (λ i. if ends_row i.tag then i.count else 0) items

-- how far right the items lead: the sum of the counts of the cell items after the last row end
abbrev pub columns_of : List Item → ℕ
columns_of items = sum_by (λ i. i.count) (after_last (λ i. ends_row i.tag) items)

-- `count` cells of a state, from a point to the right
abbrev pub run_of : ℕ → Point → ℕ → Picture
run_of state at count = map (λ k. (record { y = at.y; x = at.x +ℤ pos k }, state)) (range_with_len 0 count)

-- where the item after these begins
abbrev pub place_after : Point → List Item → Point
place_after corner before = record { y = corner.y +ℤ pos (row_count before); x = corner.x +ℤ pos (columns_of before) }

-- the cells of one item, after the items before it; dead cells and row ends have none
abbrev pub item_cells : Point → List Item → Item → Picture
item_cells corner before item = if tag_state item.tag == 0 then [] else run_of (tag_state item.tag) (place_after corner before) item.count

-- the cells of items that stand after others
abbrev pub picture_after : Point → List Item → List Item → Picture
picture_after corner before [] = []
picture_after corner before (i ∷ is) = item_cells corner before i ++ picture_after corner (before ++ i ∷ []) is

-- the picture of a list of items, whose first cell is at the corner
abbrev pub picture_of_items : Point → List Item → Picture
picture_of_items corner items = picture_after corner [] items
