-- What is wrong with an RLE text. The units of its spelling are each word of a `#CXRLE` line, each other line before the
-- header, the header, and each item (our own order); the first bad one is the text's first fault.
use Rattle.std.specs.Prelude.{◌≡◌, ℕ, ◌≤◌, ℤ, List, [], ◌∷◌, ◌++◌, Bool, true, false, ◌||◌, ◌==◌, nat_le, Option, Some, None, is_some, codes, ◌⊎◌, if◌then◌else◌}
use Rattle.std.specs.Bool.{nat_eq}
use Rattle.std.specs.List.{AllZip, starts_with}
use Rattle.ca_plane.specs.Prelude.{letter, is_blank, is_line_end, is_digit, front, rest, AreDigits, value, generation_limit}
use Rattle.ca_rle.specs.declared.{fault.RleFault.RleFault, item.Item.Item}
use Rattle.ca_rle.specs.declared.fault.RleFault.TheVariants.{Syntax, Header, XlifeRule, NoEnd, BadState, GenTooLarge, Range, TooManyCells, Memory}
use Rattle.ca_rle.specs.Items.{is_letter, is_prefix, prefixed_state, tag_of, Place, AtStart, InLine, InComment, Run}
use Rattle.ca_rle.specs.Header.{IsHeader, is_front_line, extended_words, CxrleWord, Corner, WordSays, IsXlifeLine}
use Rattle.ca_rle.specs.File.{RleFile, FollowsPreamble, IsHeaded, IsRleFile}
use Rattle.ca_rle.specs.Limits.{IsRleOutOfRange, HasTooManyRleCells}

-- a word of a `#CXRLE` line that begins as `Pos=` or `Gen=` and isn't of that form, or whose generation is too large
abbrev pub IsBadWord : List ℕ → RleFault → Type 0
IsBadWord word Syntax =
    ((starts_with nat_eq word (codes "Pos=") ≡ true) × ((x y : ℤ) → WordSays word (Corner x y) → ⊥))
    ⊎ ((starts_with nat_eq word (codes "Gen=") ≡ true) × ((digits : List ℕ) → word ≡ codes "Gen=" ++ digits → AreDigits digits → ⊥))
IsBadWord word GenTooLarge = (digits : List ℕ) × (word ≡ codes "Gen=" ++ digits) × AreDigits digits × (generation_limit ≤ value digits)
IsBadWord word fault = ⊥

-- a bad word stands after good ones
pub record HasBadWordAmong (words : List (List ℕ)) (fault : RleFault) : Type 0 where
  pub good : List (List ℕ)
  pub good_said : List CxrleWord
  pub word : List ℕ
  pub later : List (List ℕ)
  pub words_are : words ≡ good ++ word ∷ later
  pub good_words : AllZip WordSays good good_said
  pub bad : IsBadWord word fault

-- a line with a bad word stands after good lines
pub record HasBadWord (bytes : List ℕ) (fault : RleFault) : Type 0 where
  pub lines : List (List ℕ)
  pub said : List CxrleWord
  pub line : List ℕ
  pub more : List ℕ
  pub follows : FollowsPreamble bytes lines said line more
  pub comment : is_front_line line ≡ true
  pub among : HasBadWordAmong (extended_words line) fault

-- a line that is neither a comment nor a header stands after good lines, or the bytes end
pub record HasNoHeader (bytes : List ℕ) : Type 0 where
  pub lines : List (List ℕ)
  pub said : List CxrleWord
  pub line : List ℕ
  pub more : List ℕ
  pub follows : FollowsPreamble bytes lines said line more
  pub no_header : (rule : Option (List ℕ)) → IsHeader line rule → ⊥
  -- the line is no comment, or it is one with good words and the last of the text
  pub no_comment_or_last : (is_front_line line ≡ false) ⊎ ((more ≡ []) × ((last : List CxrleWord) × AllZip WordSays (extended_words line) last))

-- a header without a rule stands after good lines, one of which gives XLife's rule
pub record HasXlifeRule (bytes : List ℕ) : Type 0 where
  pub lines : List (List ℕ)
  pub said : List CxrleWord
  pub header : List ℕ
  pub body : List ℕ
  pub xlife : List ℕ
  pub earlier : List (List ℕ)
  pub others : List (List ℕ)
  pub follows : FollowsPreamble bytes lines said header body
  pub is_xlife : IsXlifeLine xlife
  pub among : lines ≡ earlier ++ xlife ∷ others
  pub header_is : IsHeader header None

-- the bytes after the white space at the front; none where a comment is cut off by the end
abbrev pub after_white : Place → List ℕ → List ℕ
after_white AtStart [] = []
after_white InLine [] = []
after_white InComment [] = []
after_white AtStart (b ∷ bs) =
    if is_line_end b || is_blank b then after_white AtStart bs
    else (if b == letter "#" then after_white InComment bs else b ∷ bs)
after_white InLine (b ∷ bs) =
    if is_line_end b then after_white AtStart bs
    else (if is_blank b then after_white InLine bs else b ∷ bs)
after_white InComment (b ∷ bs) = if is_line_end b then after_white AtStart bs else after_white InComment bs

-- the fault of a prefix with what stands after it: a letter has to follow, and the greatest state is 255
abbrev pub letter_fault : ℕ → List ℕ → Option RleFault
letter_fault prefix [] = Some NoEnd
letter_fault prefix (b ∷ bs) = if is_letter b then (if nat_le (prefixed_state prefix b) 255 then None else Some BadState) else Some Syntax

-- the fault of the tag or `!` at the front, if it has one: `!` takes no count
abbrev pub tag_fault : Bool → List ℕ → Option RleFault
tag_fault counted [] = Some NoEnd
tag_fault counted (b ∷ bs) =
    if b == letter "!" then (if counted then Some Syntax else None)
    else (if is_some (tag_of (b ∷ [])) then None
    else (if is_prefix b then letter_fault b bs else Some Syntax))

-- the fault of digits and what stands after them: a count of 0 is judged before its tag
abbrev pub count_fault : List ℕ → List ℕ → Option RleFault
count_fault [] bytes = tag_fault false bytes
count_fault (d ∷ ds) bytes = if value (d ∷ ds) == 0 then Some Syntax else tag_fault true (after_white InLine bytes)

-- the fault of the item or end at the front, if it has one
abbrev pub item_fault : List ℕ → Option RleFault
item_fault bytes = count_fault (front is_digit (after_white InLine bytes)) (rest is_digit (after_white InLine bytes))

-- a bad item stands after a good header and good items, or the bytes end
pub record HasBadItem (bytes : List ℕ) (fault : RleFault) : Type 0 where
  pub said : List CxrleWord
  pub rule : Option (List ℕ)
  pub body : List ℕ
  pub items : List Item
  pub bad : List ℕ
  pub headed : IsHeaded bytes said rule body
  pub good : Run body items bad
  pub fault_is : item_fault bad ≡ Some fault

-- the first fault in the spelling of a text; the limits are no part of the spelling
abbrev pub IsFirstRleFault : List ℕ → RleFault → Type 0
IsFirstRleFault bytes Header = HasNoHeader bytes
IsFirstRleFault bytes XlifeRule = HasXlifeRule bytes
IsFirstRleFault bytes GenTooLarge = HasBadWord bytes GenTooLarge
IsFirstRleFault bytes Syntax = HasBadWord bytes Syntax ⊎ HasBadItem bytes Syntax
IsFirstRleFault bytes NoEnd = HasBadItem bytes NoEnd
IsFirstRleFault bytes BadState = HasBadItem bytes BadState
IsFirstRleFault bytes fault = ⊥

-- the fault of a text: the first in its spelling, else the first limit that it passes; of running out of memory nothing is said here
abbrev pub IsRleFault : List ℕ → RleFault → Type 0
IsRleFault bytes Range = (file : RleFile) × IsRleFile bytes file × IsRleOutOfRange file
IsRleFault bytes TooManyCells = (file : RleFile) × IsRleFile bytes file × HasTooManyRleCells file
IsRleFault bytes Memory = Unit {0}
IsRleFault bytes fault = IsFirstRleFault bytes fault
