-- Tidy texts: the one form in which a plane is written (our own, but for the two sets of letters and the 70 characters,
-- which are those of Golly Help, File Formats: Extended RLE format).
use Rattle.std.specs.Prelude.{◌≡◌, ◌≢◌, ℕ, ◌+◌, ◌-◌, ◌<◌, ◌≤◌, pos, ◌+ℤ◌, ◌-ℤ◌, List, [], ◌∷◌, ◌++◌, map, length, ◌==◌, nat_le, codes, decimal, ◌⊎◌, if◌then◌else◌, ◌/◌, ◌%◌}
use Rattle.std.specs.Fmt.{signed_decimal}
use Rattle.std.specs.List.{flat_map, concat, AllByRecursion}
use Rattle.ca_plane.specs.declared.point.{Point.Point, Bounds.Bounds}
use Rattle.ca_plane.specs.Prelude.{Picture, IsSame, IsLive, IsLeastBox}
use Rattle.ca_rle.specs.declared.item.{Item.Item, Tag.Tag}
use Rattle.ca_rle.specs.declared.item.Tag.TheVariants.{Cell, RowEnd}
use Rattle.ca_rle.specs.{Shown.tag_state, Shown.picture_of_items, File.line_with_lf}

-- the letters of a state, where there may be more than two: `.` for 0, `A` to `X` for 1 to 24, and then 24 for each prefix from `p` on
abbrev pub letters_of : ℕ → List ℕ
letters_of state =
    if state == 0 then codes "."
    else (if nat_le state 24 then (64 + state) ∷ []
    else (111 + (state - 1) / 24) ∷ (65 + (state - 1) % 24) ∷ [])

-- a tag as it is written: `b` and `o` where there are two states, else `.` and letters
abbrev pub tag_text : ℕ → Tag → List ℕ
tag_text states RowEnd = codes "$"
tag_text states (Cell state) = if states == 2 then (if state == 0 then codes "b" else codes "o") else letters_of state

-- a count as it is written: nothing for 1
abbrev pub count_text : ℕ → List ℕ
count_text count = if count == 1 then [] else decimal count

-- an item as it is written
abbrev pub item_text : ℕ → Item → List ℕ
item_text states item = count_text item.count ++ tag_text states item.tag

-- no two items side by side that could be one, no dead cells at the end of a row, live cells last, and no count of 0
abbrev pub AreTidy : List Item → Type 0
AreTidy [] = Unit {0}
AreTidy (i ∷ []) = (0 < i.count) × (0 < tag_state i.tag)
AreTidy (i ∷ j ∷ is) = (0 < i.count) × (i.tag ≢ j.tag) × (i.tag ≡ Cell 0 → j.tag ≢ RowEnd) × AreTidy (j ∷ is)

-- each state is below the number of states, and a byte
abbrev pub HaveStates : ℕ → List Item → Type 0
HaveStates states items = AllByRecursion (λ i. (tag_state i.tag ≤ 255) × (0 < tag_state i.tag → tag_state i.tag < states)) items

-- the characters of the first of these items; none where there is none
abbrev pub first_text : List (List ℕ) → List ℕ
first_text [] = []
first_text (t ∷ ts) = t

-- a line that others follow is ended where the first item of the next would pass 70 characters
abbrev pub IsFull : List (List ℕ) → List (List (List ℕ)) → Type 0
IsFull line [] = Unit {0}
IsFull line (next ∷ lines) = 70 < length (concat line) + length (first_text next)

-- lines of one or more whole items, of at most 70 characters, of which none is ended earlier than it has to be
abbrev pub AreLines : List (List (List ℕ)) → Type 0
AreLines [] = Unit {0}
AreLines (line ∷ lines) = (0 < length line) × (length (concat line) ≤ 70) × IsFull line lines × AreLines lines

-- the corner and the size that are written: those of the smallest box round the live cells, or (0, 0) and 0 by 0 where
-- no cell is live
abbrev pub IsFrame : Picture → Point → ℕ → ℕ → Type 0
IsFrame cells corner width height =
    ((IsLive cells → ⊥) × (corner ≡ record { y = pos 0; x = pos 0 }) × (width ≡ 0) × (height ≡ 0))
    ⊎ ((box : Bounds) × IsLeastBox cells box × (corner ≡ record { y = box.y0; x = box.x0 })
    × (pos width ≡ (box.x1 -ℤ box.x0) +ℤ pos 1) × (pos height ≡ (box.y1 -ℤ box.y0) +ℤ pos 1))

-- a generation as it is written: nothing for 0
abbrev pub generation_text : ℕ → List ℕ
generation_text generation = if generation == 0 then [] else codes " Gen=" ++ decimal generation

-- the first line
abbrev pub corner_line : Point → ℕ → List ℕ
corner_line corner generation = codes "#CXRLE Pos=" ++ (signed_decimal corner.x ++ (codes "," ++ (signed_decimal corner.y ++ generation_text generation)))

-- the header
abbrev pub header_line : ℕ → ℕ → List ℕ → List ℕ
header_line width height rule_text = codes "x = " ++ (decimal width ++ (codes ", y = " ++ (decimal height ++ (codes ", rule = " ++ rule_text))))

-- the one text of a plane, its rule text, its generation and its rule's number of states
pub record IsTidyRle (text : List ℕ) (cells : Picture) (rule_text : List ℕ) (generation states : ℕ) : Type 0 where
  pub corner : Point
  pub width : ℕ
  pub height : ℕ
  pub items : List Item
  pub lines : List (List (List ℕ))
  pub frame : IsFrame cells corner width height
  pub shown : IsSame cells (picture_of_items corner items)
  pub tidy : AreTidy items
  pub have_states : HaveStates states items
  -- the lines hold the items, one after another, and then `!`
  pub whole : flat_map (λ line. line) lines ≡ map (item_text states) items ++ codes "!" ∷ []
  pub lines_are : AreLines lines
  pub spelled : text ≡ line_with_lf (corner_line corner generation) ++ (line_with_lf (header_line width height rule_text) ++ flat_map (λ line. line_with_lf (concat line)) lines)
