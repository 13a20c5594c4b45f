-- A whole extended RLE text: lines before the header, the header, and the items (Golly Help, File Formats: Extended RLE format).
use Rattle.std.specs.Prelude.{◌≡◌, ℕ, pos, List, [], ◌∷◌, ◌++◌, not, IsTrue, Option, unwrap_or, is_some, true, ◌⊎◌}
use Rattle.std.specs.List.{flat_map, AllZip, AllByRecursion}
use Rattle.ca_plane.specs.declared.point.Point.{Point}
use Rattle.ca_plane.specs.Prelude.{default_rule, is_line_end, is_end_or, Every}
use Rattle.ca_rle.specs.declared.item.Item.{Item}
use Rattle.ca_rle.specs.Items.{Items}
use Rattle.ca_rle.specs.Header.{IsHeader, is_front_line, extended_words, CxrleWord, Corner, Generation, Nothing, WordSays, IsXlifeLine}

-- what an RLE text holds: the corner, the generation, the rule text and the items
pub record RleFile : Type 0 where
  pub corner : Point
  pub generation : ℕ
  pub rule_text : List ℕ
  pub items : List Item

-- a line without an LF in it
abbrev pub IsLine : List ℕ → Type 0
IsLine line = Every (λ b. not (is_line_end b)) line

-- a line with the LF that ends it
abbrev pub line_with_lf : List ℕ → List ℕ
line_with_lf line = line ++ 10 ∷ []

-- lines that may stand before the header, and what the words of their `#CXRLE` lines say
pub record IsPreamble (lines : List (List ℕ)) (said : List CxrleWord) : Type 0 where
  pub each_is_line : AllByRecursion IsLine lines
  pub comments : AllByRecursion (λ l. IsTrue (is_front_line l)) lines
  pub words : AllZip WordSays (flat_map extended_words lines) said

-- lines that may stand before a header, then this line, and then these bytes: none, or its LF and what stands after it
pub record FollowsPreamble (bytes : List ℕ) (lines : List (List ℕ)) (said : List CxrleWord) (line more : List ℕ) : Type 0 where
  pub preamble : IsPreamble lines said
  pub line_is : IsLine line
  pub line_ends : IsTrue (is_end_or is_line_end more)
  pub spelled : bytes ≡ flat_map line_with_lf lines ++ (line ++ more)

-- the corner is that of the last `Pos`, and (0, 0) without one
abbrev pub last_corner : Point → List CxrleWord → Point
last_corner at [] = at
last_corner at (Corner x y ∷ more) = last_corner (record { y = y; x = x }) more
last_corner at (Generation count ∷ more) = last_corner at more
last_corner at (Nothing ∷ more) = last_corner at more

-- the corner that the words say
abbrev pub corner_of : List CxrleWord → Point
corner_of said = last_corner (record { y = pos 0; x = pos 0 }) said

-- the generation is that of the last `Gen`, and 0 without one
abbrev pub last_word_generation : ℕ → List CxrleWord → ℕ
last_word_generation count [] = count
last_word_generation count (Corner x y ∷ more) = last_word_generation count more
last_word_generation count (Generation later ∷ more) = last_word_generation later more
last_word_generation count (Nothing ∷ more) = last_word_generation count more

-- the generation that the words say
abbrev pub generation_of : List CxrleWord → ℕ
generation_of said = last_word_generation 0 said

-- lines that may stand before a header, a header after them, and what stands after it: nothing, or its LF and the items
pub record IsHeaded (bytes : List ℕ) (said : List CxrleWord) (rule : Option (List ℕ)) (body : List ℕ) : Type 0 where
  pub lines : List (List ℕ)
  pub header : List ℕ
  pub follows : FollowsPreamble bytes lines said header body
  pub header_is : IsHeader header rule
  -- a rule is given, or no line gives XLife's
  pub named : (is_some rule ≡ true) ⊎ AllByRecursion (λ l. IsXlifeLine l → ⊥) lines

-- the bytes are an RLE text that holds this; without a rule text its rule is `B3/S23`
pub record IsRleFile (bytes : List ℕ) (file : RleFile) : Type 0 where
  pub said : List CxrleWord
  pub rule : Option (List ℕ)
  pub body : List ℕ
  pub headed : IsHeaded bytes said rule body
  pub items : Items body file.items
  pub corner : file.corner ≡ corner_of said
  pub generation : file.generation ≡ generation_of said
  pub rule_text : file.rule_text ≡ unwrap_or rule default_rule
