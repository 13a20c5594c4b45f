-- The items of an extended RLE text (Golly Help, File Formats: Extended RLE format).
use Rattle.std.specs.Prelude.{◌≡◌, ℕ, ◌+◌, ◌-◌, ◌*◌, ◌<◌, List, [], ◌∷◌, ◌++◌, Bool, true, false, ◌&&◌, ◌||◌, ◌==◌, nat_le, IsTrue, Option, Some, None, if◌then◌else◌}
use Rattle.ca_plane.specs.Prelude.{letter, is_blank, is_line_end, AreDigits, value}
use Rattle.ca_rle.specs.declared.item.{Item.Item, Tag.Tag}
use Rattle.ca_rle.specs.declared.item.Tag.TheVariants.{Cell, RowEnd}

-- `A` to `X`
abbrev pub is_letter : ℕ → Bool
is_letter b = nat_le (letter "A") b && nat_le b (letter "X")

-- `p` to `y`, which stand before a letter
abbrev pub is_prefix : ℕ → Bool
is_prefix b = nat_le (letter "p") b && nat_le b (letter "y")

-- the state of a prefix and a letter: 24 more for `p`, 48 more for `q`, and so on
abbrev pub prefixed_state : ℕ → ℕ → ℕ
prefixed_state prefix next = 24 * (prefix - 111) + (next - 64)

-- what a tag means: `b` and `.` are state 0, `o` is state 1, letters are states, `$` ends a row
abbrev pub tag_of : List ℕ → Option Tag
tag_of [] = None
tag_of (b ∷ []) =
    if b == letter "b" || b == letter "." then Some (Cell 0)
    else (if b == letter "o" then Some (Cell 1)
    else (if is_letter b then Some (Cell (b - 64))
    else (if b == letter "$" then Some RowEnd else None)))
tag_of (p ∷ b ∷ []) = if (is_prefix p && is_letter b) && nat_le (prefixed_state p b) 255 then Some (Cell (prefixed_state p b)) else None
tag_of (p ∷ b ∷ c ∷ bs) = None

-- where white space stands: at a line's start or after blanks there, elsewhere in a line, or in a line whose first byte that is no blank is `#`
pub data Place : Type 0 where
  AtStart : Place
  InLine : Place
  InComment : Place

-- white space from a place onwards: blanks, line ends, and whole lines whose first byte that is no blank is `#`
abbrev pub is_white_from : Place → List ℕ → Bool
is_white_from AtStart [] = true
is_white_from InLine [] = true
is_white_from InComment [] = false
is_white_from AtStart (b ∷ bs) =
    if is_line_end b || is_blank b then is_white_from AtStart bs
    else (if b == letter "#" then is_white_from InComment bs else false)
is_white_from InLine (b ∷ bs) =
    if is_line_end b then is_white_from AtStart bs
    else (if is_blank b then is_white_from InLine bs else false)
is_white_from InComment (b ∷ bs) = if is_line_end b then is_white_from AtStart bs else is_white_from InComment bs

-- white space among the items
abbrev pub IsWhite : List ℕ → Type 0
IsWhite bytes = IsTrue (is_white_from InLine bytes)

-- no digits stand for 1, and digits for their number, which is not 0
abbrev pub IsCount : List ℕ → ℕ → Type 0
IsCount [] n = n ≡ 1
IsCount (d ∷ ds) n = AreDigits (d ∷ ds) × (n ≡ value (d ∷ ds)) × (0 < n)

-- an item: white space, a count, white space, and a tag
abbrev pub IsItem : List ℕ → Item → Type 0
IsItem bytes item = (before : List ℕ) × (digits : List ℕ) × (between : List ℕ) × (letters : List ℕ) ×
    IsWhite before × IsCount digits item.count × IsWhite between × (tag_of letters ≡ Some item.tag)
    × (bytes ≡ before ++ (digits ++ (between ++ letters)))

-- the items stand in front of the rest
abbrev pub Run : List ℕ → List Item → List ℕ → Type 0
Run bytes [] rest = bytes ≡ rest
Run bytes (i ∷ is) rest = (front : List ℕ) × (more : List ℕ) × IsItem front i × Run more is rest × (bytes ≡ front ++ more)

-- the end of a pattern: white space, `!`, and any bytes
abbrev pub IsEnd : List ℕ → Type 0
IsEnd bytes = (before : List ℕ) × (ignored : List ℕ) × IsWhite before × (bytes ≡ before ++ letter "!" ∷ ignored)

-- the bytes spell the items: the items one after another, and then the end
abbrev pub Items : List ℕ → List Item → Type 0
Items bytes items = (rest : List ℕ) × Run bytes items rest × IsEnd rest
