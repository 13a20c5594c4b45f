-- How what stands before the items of an RLE text is read: numbers, words and lines, one after another.
use Rattle.std.specs.Prelude.{◌≡◌, ℕ, ℤ, ◌≤ℤ◌, ◌<ℤ◌, pos, neg_ℤ, List, [], ◌∷◌, ◌++◌, length, true, false, Option, unwrap_or, ◌⊎◌}
use Rattle.std.specs.Option.{option_copied}
use Rattle.std.specs.List.{AllZip, AllByRecursion}
use Rattle.ca_plane.specs.declared.point.Point.{Point}
use Rattle.ca_plane.specs.Prelude.{IsInteger, reach, range, default_rule}
use Rattle.ca_rle.specs.declared.{front.words.Start.Start, front.lines.Preamble.Preamble, front.Front.Front, fault_line.GoodText.GoodText}
use Rattle.ca_rle.specs.{Header.CxrleWord, Header.WordSays, Header.extended_words, Header.IsXlifeLine, File.RleFile, File.IsRleFile, File.IsPreamble, File.IsHeaded, File.corner_of}
use Rattle.ca_rle.specs.{File.generation_of, Items.Items, Limits.IsWithinLimits, Shown.greatest_state, Shown.picture_of_items, inner.BodyFaults.KeepsCorner, inner.Boxes.AreBounds}

-- a coordinate in range
abbrev pub IsNearCoordinate : ℤ → Type 0
IsNearCoordinate n = (neg_ℤ (pos range) ≤ℤ n) × (n <ℤ pos range)

-- the reader keeps the number itself, or, where that is out of range, some number within a plane's reach that is out of range too
pub record KeepsNumber (number kept : ℤ) : Type 0 where
  pub low : neg_ℤ reach ≤ℤ kept
  pub high : kept ≤ℤ reach
  pub same : (kept ≡ number) ⊎ ((IsNearCoordinate number → ⊥) × (IsNearCoordinate kept → ⊥))

-- the bytes write a number that is kept so
abbrev pub Writes : List ℕ → ℤ → Type 0
Writes bytes kept = (number : ℤ) × IsInteger bytes number × KeepsNumber number kept

-- two numbers with a comma between them
abbrev pub WritesPair : List ℕ → Point → Type 0
WritesPair bytes place = (a : List ℕ) × (b : List ℕ) × (bytes ≡ a ++ 44 ∷ b) × Writes a place.x × Writes b place.y

-- the start that words say
pub record IsFrontStart (said : List CxrleWord) (start : Start) : Type 0 where
  pub corner : KeepsCorner (corner_of said) start.corner
  pub generation : start.generation ≡ generation_of said

-- after what was said, these words lead from one start to another
abbrev pub WordsLead : List (List ℕ) → Start → Start → Type 0
WordsLead words old new = (more : List CxrleWord) × AllZip WordSays words more × ((said : List CxrleWord) → IsFrontStart said old → IsFrontStart (said ++ more) new)

-- one of the lines gives XLife's rule
abbrev pub HasXlifeLine : List (List ℕ) → Type 0
HasXlifeLine lines = (earlier : List (List ℕ)) × (line : List ℕ) × (later : List (List ℕ)) × IsXlifeLine line × (lines ≡ earlier ++ line ∷ later)

-- what lines before a header say
pub record IsPreambleOf (lines : List (List ℕ)) (said : List CxrleWord) (preamble : Preamble) : Type 0 where
  pub good : IsPreamble lines said
  pub start : IsFrontStart said preamble.start
  pub xlife : preamble.has_xlife_rule ≡ true → HasXlifeLine lines
  pub no_xlife : preamble.has_xlife_rule ≡ false → AllByRecursion (λ l. IsXlifeLine l → ⊥) lines

-- after what lines before a header said, this line leads from one state of the reader to another
abbrev pub LeadsPreamble : List ℕ → Preamble → Preamble → Type 0
LeadsPreamble line old new = (more : List CxrleWord) × AllZip WordSays (extended_words line) more
    × ((lines : List (List ℕ)) (said : List CxrleWord) → IsPreambleOf lines said old → IsPreambleOf (lines ++ line ∷ []) (said ++ more) new)

-- the bytes have this front
abbrev pub IsFront : List ℕ → Front → Type 0
IsFront bytes front = (said : List CxrleWord) × (rule : Option (List ℕ)) × IsHeaded bytes said rule front.body.now
    × (option_copied front.rule ≡ rule) × KeepsCorner (corner_of said) front.corner × (front.generation ≡ generation_of said)

-- the bytes hold this file, which passes no limit, and this is what the reader keeps of them
pub record IsGoodText (bytes : List ℕ) (file : RleFile) (text : GoodText) : Type 0 where
  pub is_file : IsRleFile bytes file
  pub within : IsWithinLimits file
  pub items : Items text.front.body.now file.items
  pub corner : text.front.corner ≡ file.corner
  pub rule_text : unwrap_or (option_copied text.front.rule) default_rule ≡ file.rule_text
  pub generation : text.front.generation ≡ file.generation
  pub greatest : text.greatest ≡ greatest_state file.items
  pub cells : text.cells ≡ length (picture_of_items file.corner file.items)
  pub bounds : AreBounds (picture_of_items file.corner file.items) text.bounds
