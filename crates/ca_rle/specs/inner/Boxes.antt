-- The smallest box round the cells of items, item by item.
use Rattle.std.specs.Prelude.{◌≡◌, ℕ, min, max, pos, ◌+ℤ◌, ◌≤ℤ◌, List, Option, Some, None, MatchOption}
use Rattle.ca_plane.specs.declared.point.{Point.Point, Bounds.Bounds}
use Rattle.ca_plane.specs.Prelude.{IsLeastBox, IsInRange, Picture, IsLive}
use Rattle.ca_rle.specs.declared.{item.Item.Item, extent.Offset.Offset, extent.Span.Span}
use Rattle.ca_rle.specs.{Limits.IsRleWithinRange, Shown.picture_of_items, inner.BodyFaults.bare_file}

-- the smallest box round the live cells, or none, where there are none
abbrev pub AreBounds : Picture → Option Bounds → Type 0
AreBounds cells bounds = MatchOption bounds (IsLive cells → ⊥) (IsLeastBox cells)

-- the corners of a box are in range, and its sides in order
pub record IsBoxInRange (box : Bounds) : Type 0 where
  pub upper : IsInRange (record { y = box.y0; x = box.x0 })
  pub lower : IsInRange (record { y = box.y1; x = box.x1 })
  pub wide : box.x0 ≤ℤ box.x1
  pub high : box.y0 ≤ℤ box.y1

-- the smallest box with a run as well, from an offset up to the one with this column
abbrev pub IsSpanWith : Offset → ℕ → Option Span → Span → Type 0
IsSpanWith at last None new = (new.left ≡ at.columns) × (new.top ≡ at.rows) × (new.right ≡ last) × (new.bottom ≡ at.rows)
IsSpanWith at last (Some old) new =
    (new.left ≡ min old.left at.columns) × (new.top ≡ min old.top at.rows) × (new.right ≡ max old.right last) × (new.bottom ≡ max old.bottom at.rows)

-- the box that a span is from a corner
abbrev pub box_at : Point → Span → Bounds
box_at corner span = record { x0 = corner.x +ℤ pos span.left; y0 = corner.y +ℤ pos span.top; x1 = corner.x +ℤ pos span.right; y1 = corner.y +ℤ pos span.bottom }

abbrev pub bounds_at : Point → Option Span → Option Bounds
bounds_at corner None = None
bounds_at corner (Some span) = Some (box_at corner span)

-- from each corner from which the items are in range it is the smallest box round their cells
abbrev pub IsSpanOf : List Item → Option Span → Type 0
IsSpanOf items span = (corner : Point) → IsRleWithinRange (bare_file corner items) → AreBounds (picture_of_items corner items) (bounds_at corner span)
