-- Texts whose lines say which cells are live: what a line says, and the cells of a list of lines. How a line is spelled
-- is defined for each format, in Life106, Life105 and Plaintext.
use Rattle.std.specs.Prelude.{ℕ, ℤ, pos, ◌+ℤ◌, ◌≤ℤ◌, ◌<ℤ◌, List, [], ◌∷◌, length, Bool, false, ◌&&◌, ◌||◌, ◌==◌, if◌then◌else◌, Option, None, Some, count_by}
use Rattle.std.specs.List.{sum_by}
use Rattle.std.specs.Ordering.{int_eq}
use Rattle.ca_plane.specs.declared.point.Point.{Point}
use Rattle.ca_plane.specs.Prelude.{letter, range, IsInRange}
use Rattle.ca_rule.specs.declared.bs_rule.BsRule.{BsRule}

-- what a line says: nothing, one live cell, the cells of a row, where the rows after it begin, or the rule
pub data CellLine : Type 0 where
  Nothing : CellLine
  LiveCell : (at : Point) → CellLine
  Row : (cells : List ℕ) → CellLine
  Corner : (at : Point) → CellLine
  Rule : (rule : BsRule) → CellLine

-- ---- the cells of a line

-- `O` and `*` are live cells of a row, every other byte of it is a dead one
abbrev pub is_live_byte : ℕ → Bool
is_live_byte b = (b == letter "O") || (b == letter "*")

-- the point is (x, y)
abbrev pub is_at : Point → ℤ → ℤ → Bool
is_at at x y = int_eq y at.y && int_eq x at.x

-- the next point to the east, and the next to the south
abbrev pub east : Point → Point
east at = record { y = at.y; x = at.x +ℤ pos 1 }

abbrev pub south : Point → Point
south at = record { y = at.y +ℤ pos 1; x = at.x }

-- (x, y) is live in the row that begins at a point and goes to the east
abbrev pub is_live_in_row : Point → List ℕ → ℤ → ℤ → Bool
is_live_in_row at [] x y = false
is_live_in_row at (b ∷ bs) x y = (is_live_byte b && is_at at x y) || is_live_in_row (east at) bs x y

-- a line makes (x, y) live, where the next row begins at this place
abbrev pub is_live_in_line : CellLine → Option Point → ℤ → ℤ → Bool
is_live_in_line Nothing place x y = false
is_live_in_line (LiveCell at) place x y = is_at at x y
is_live_in_line (Row cells) None x y = false
is_live_in_line (Row cells) (Some at) x y = is_live_in_row at cells x y
is_live_in_line (Corner at) place x y = false
is_live_in_line (Rule rule) place x y = false

-- ---- the cells of lines

-- where the row after a line begins: rows go down from their corner
abbrev pub next_row : CellLine → Option Point → Option Point
next_row Nothing place = place
next_row (LiveCell at) place = place
next_row (Row cells) None = None
next_row (Row cells) (Some at) = Some (south at)
next_row (Corner at) place = Some at
next_row (Rule rule) place = place

-- the same after some lines
abbrev pub row_after : Option Point → List CellLine → Option Point
row_after place [] = place
row_after place (s ∷ said) = row_after (next_row s place) said

-- one of the lines makes (x, y) live
abbrev pub is_live_in : Option Point → List CellLine → ℤ → ℤ → Bool
is_live_in place [] x y = false
is_live_in place (s ∷ said) x y = is_live_in_line s place x y || is_live_in (next_row s place) said x y

-- the state of a cell: 1 where one of the lines makes it live, else 0
abbrev pub said_state : Option Point → List CellLine → ℤ → ℤ → ℕ
said_state place said x y = if is_live_in place said x y then 1 else 0

-- the rule is the last that is said, if one is
abbrev pub next_rule : CellLine → Option BsRule → Option BsRule
next_rule Nothing rule = rule
next_rule (LiveCell at) rule = rule
next_rule (Row cells) rule = rule
next_rule (Corner at) rule = rule
next_rule (Rule later) rule = Some later

abbrev pub last_said_rule : Option BsRule → List CellLine → Option BsRule
last_said_rule rule [] = rule
last_said_rule rule (s ∷ said) = last_said_rule (next_rule s rule) said

-- ---- limits

-- how many live cells a line names
abbrev pub live_count : CellLine → ℕ
live_count Nothing = 0
live_count (LiveCell at) = 1
live_count (Row cells) = count_by is_live_byte cells
live_count (Corner at) = 0
live_count (Rule rule) = 0

-- how many live cells some lines name: a cell that is named twice counts twice
abbrev pub said_count : List CellLine → ℕ
said_count said = sum_by live_count said

-- a row has a place
abbrev pub HasPlace : CellLine → Option Point → Type 0
HasPlace Nothing place = Unit {0}
HasPlace (LiveCell at) place = Unit {0}
HasPlace (Row cells) None = ⊥
HasPlace (Row cells) (Some at) = Unit {0}
HasPlace (Corner at) place = Unit {0}
HasPlace (Rule rule) place = Unit {0}

-- the whole row, its dead cells too, lies north and west of where the range of a file ends
pub record IsRowInRange (at : Point) (cells : List ℕ) : Type 0 where
  pub south : at.y <ℤ pos range
  pub east : (at.x +ℤ pos (length cells)) ≤ℤ pos range

-- a live cell, a corner and a row that has a place are in the range of a file
abbrev pub IsLineInRange : CellLine → Option Point → Type 0
IsLineInRange Nothing place = Unit {0}
IsLineInRange (LiveCell at) place = IsInRange at
IsLineInRange (Row cells) None = Unit {0}
IsLineInRange (Row cells) (Some at) = IsRowInRange at cells
IsLineInRange (Corner at) place = IsInRange at
IsLineInRange (Rule rule) place = Unit {0}
