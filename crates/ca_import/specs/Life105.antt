-- The lines of a Life 1.05 text (LifeWiki, "Life 1.05"; blank lines, other `#` lines and a second rule as Golly's reader has them; what
-- is marked so is our own).
use Rattle.std.specs.Prelude.{◌≡◌, ℕ, ◌<◌, List, [], ◌∷◌, length, Bool, true, not, ◌&&◌, ◌||◌, IsTrue, ◌⊎◌, codes}
use Rattle.std.specs.Bool.{nat_eq}
use Rattle.std.specs.List.{starts_with}
use Rattle.std.specs.Str.{bytes_eq}
use Rattle.ca_plane.specs.Prelude.{words_of, IsInteger, default_rule}
use Rattle.ca_rule.specs.Prelude.{NamesBsRule}
use Rattle.ca_import.specs.CellLines.{CellLine, Nothing, LiveCell, Row, Corner, Rule}
use Rattle.ca_import.specs.Rows.{is_star_cell, IsRow}

-- the words of a line that says nothing: it is blank, or its first word begins with `#` and is neither `#P`, `#N` nor `#R`; so `#D`
-- and `#C` begin comments
abbrev pub is_description : List (List ℕ) → Bool
is_description [] = true
is_description (w ∷ ws) =
    starts_with nat_eq w (codes "#")
    && not (bytes_eq w (codes "#P") || (bytes_eq w (codes "#N") || bytes_eq w (codes "#R")))

-- the words name a rule by this text: `#N` and anything after it names B3/S23, and `#R` is followed by the rule's text alone
abbrev pub NameRuleText : List (List ℕ) → List ℕ → Type 0
NameRuleText words text =
    ((ignored : List (List ℕ)) × (words ≡ codes "#N" ∷ ignored) × (text ≡ default_rule))
    ⊎ (words ≡ codes "#R" ∷ text ∷ [])

-- the words for the corner after `#P`: where there are none, they are `0 0` (Golly's own files have such a line before their rows)
abbrev pub corner_numbers : List (List ℕ) → List (List ℕ)
corner_numbers [] = codes "0" ∷ codes "0" ∷ []
corner_numbers (w ∷ ws) = w ∷ ws

-- what a line that is no row says by its words: `#P` and two integers are the corner of a block, the x and the y of its first cell, and the
-- block's rows follow. A rule is in B/S notation, as `23/3` is
abbrev pub Life105WordsSay : List (List ℕ) → CellLine → Type 0
Life105WordsSay words Nothing = IsTrue (is_description words)
Life105WordsSay words (LiveCell at) = ⊥
Life105WordsSay words (Row cells) = ⊥
Life105WordsSay words (Corner at) =
    (given : List (List ℕ)) × (x : List ℕ) × (y : List ℕ) × (words ≡ codes "#P" ∷ given) × (corner_numbers given ≡ x ∷ y ∷ [])
    × IsInteger x at.x × IsInteger y at.y
Life105WordsSay words (Rule rule) = (text : List ℕ) × NameRuleText words text × NamesBsRule text rule

-- what a line says: a row, which has one cell or more (our own), or what its words say
abbrev pub Life105Says : List ℕ → CellLine → Type 0
Life105Says line (Row cells) = IsRow is_star_cell line cells × (0 < length cells)
Life105Says line said = Life105WordsSay (words_of line) said
