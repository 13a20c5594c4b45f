-- The header line of an RLE text, and the lines before it (Golly Help, File Formats: Extended RLE format).
use Rattle.std.specs.Prelude.{◌≡◌, ℕ, ◌<◌, ℤ, List, [], ◌∷◌, ◌++◌, Bool, false, ◌==◌, IsTrue, Option, Some, None, codes, ◌⊎◌, if◌then◌else◌}
use Rattle.std.specs.Str.{bytes_eq}
use Rattle.std.specs.List.{starts_with}
use Rattle.std.specs.Bool.{nat_eq}
use Rattle.ca_plane.specs.Prelude.{generation_limit, letter, is_blank, Every, AreDigits, IsInteger, IsWord, value, rest, is_end_or, words_of, without_cr}

-- a part of a header: these very bytes, or a number
pub data Part : Type 0 where
  Exactly : (text : List ℕ) → Part
  Number : Part

-- the bytes of a part
abbrev pub IsHeaderPart : Part → List ℕ → Type 0
IsHeaderPart (Exactly text) bytes = bytes ≡ text
IsHeaderPart Number bytes = AreDigits bytes

-- the parts one after another, with blanks before each and after the last
abbrev pub IsSpaced : List Part → List ℕ → Type 0
IsSpaced [] bytes = Every is_blank bytes
IsSpaced (p ∷ ps) bytes = (blanks : List ℕ) × (part : List ℕ) × (more : List ℕ) ×
    Every is_blank blanks × IsHeaderPart p part × IsSpaced ps more × (bytes ≡ blanks ++ (part ++ more))

-- `,` `rule` `=`
abbrev pub rule_parts : List Part
rule_parts = Exactly (codes ",") ∷ Exactly (codes "rule") ∷ Exactly (codes "=") ∷ []

-- `x` `=` number `,` `y` `=` number, and then these
abbrev pub size_parts : List Part → List Part
size_parts more =
    Exactly (codes "x") ∷ Exactly (codes "=") ∷ Number ∷ Exactly (codes ",")
    ∷ Exactly (codes "y") ∷ Exactly (codes "=") ∷ Number ∷ more

-- a header: its size, and a rule text or none. The rule text is a word; what follows a blank after it is ignored.
-- `rule =` with nothing but blanks after it gives none.
abbrev pub IsHeader : List ℕ → Option (List ℕ) → Type 0
IsHeader line None = IsSpaced (size_parts []) line ⊎ IsSpaced (size_parts rule_parts) line
IsHeader line (Some text) = (front : List ℕ) × (ignored : List ℕ) ×
    IsSpaced (size_parts rule_parts) front × IsWord text × IsTrue (is_end_or is_blank ignored) × (line ≡ front ++ (text ++ ignored))

-- a line that may stand before the header: it is blank, or its first byte that is no blank is `#`
abbrev pub is_front_line : List ℕ → Bool
is_front_line line = is_end_or (λ b. b == letter "#") (rest is_blank line)

-- the words after `#CXRLE`, where that is the first word of the line
abbrev pub words_after_cxrle : List (List ℕ) → List (List ℕ)
words_after_cxrle [] = []
words_after_cxrle (w ∷ ws) = if bytes_eq w (codes "#CXRLE") then ws else []

-- the words that a line has after its `#CXRLE`, and none in any other line
abbrev pub extended_words : List ℕ → List (List ℕ)
extended_words line = words_after_cxrle (words_of line)

-- what a word of a `#CXRLE` line says
pub data CxrleWord : Type 0 where
  Corner : (x y : ℤ) → CxrleWord
  Generation : (count : ℕ) → CxrleWord
  Nothing : CxrleWord

-- `Pos=X,Y` is the corner, `Gen=G` the generation, below its limit; other words say nothing
abbrev pub WordSays : List ℕ → CxrleWord → Type 0
WordSays word (Corner x y) = (a : List ℕ) × (b : List ℕ) × (word ≡ codes "Pos=" ++ (a ++ letter "," ∷ b)) × IsInteger a x × IsInteger b y
WordSays word (Generation count) = (digits : List ℕ) × (word ≡ codes "Gen=" ++ digits) × AreDigits digits × (count ≡ value digits) × (count < generation_limit)
WordSays word Nothing = (starts_with nat_eq word (codes "Pos=") ≡ false) × (starts_with nat_eq word (codes "Gen=") ≡ false)

-- `#r` and a blank begin XLife's rule line; a CR that only ends the line is no blank
abbrev pub IsXlifeLine : List ℕ → Type 0
IsXlifeLine line = (blanks : List ℕ) × (blank : ℕ) × (more : List ℕ) ×
    Every is_blank blanks × IsTrue (is_blank blank) × (without_cr line ≡ blanks ++ (codes "#r" ++ blank ∷ more))
