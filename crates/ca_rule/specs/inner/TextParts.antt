-- The suffix at the end of a rule text, and the text before it (our own).
use Rattle.std.specs.Prelude.{ℕ, List, [], ◌∷◌, ◌||◌, if◌then◌else◌}
use Rattle.ca_rule.specs.TextLists.{is_rule_letter}
use Rattle.ca_rule.specs.declared.hood.Hood.{Hood}
use Rattle.ca_rule.specs.declared.hood.Hood.TheVariants.{Moore, VonNeumann, Hex}

-- the neighbourhood that the byte means at the end of a text
abbrev pub hood_at : ℕ → Hood
hood_at byte = if is_rule_letter 86 byte then VonNeumann else (if is_rule_letter 72 byte then Hex else Moore)

-- the neighbourhood that the end of a text means
abbrev pub hood_of : List ℕ → Hood
hood_of [] = Moore
hood_of (b ∷ []) = hood_at b
hood_of (b ∷ c ∷ bs) = hood_of (c ∷ bs)

-- the text before its suffix
abbrev pub body_of : List ℕ → List ℕ
body_of [] = []
body_of (b ∷ []) = if is_rule_letter 86 b || is_rule_letter 72 b then [] else b ∷ []
body_of (b ∷ c ∷ bs) = b ∷ body_of (c ∷ bs)
