-- The lines of a Life 1.06 text (LifeWiki, "Life 1.06"; what is marked so is our own).
use Rattle.std.specs.Prelude.{◌≡◌, ℕ, List, [], ◌∷◌, Bool, true, IsTrue, codes}
use Rattle.std.specs.Bool.{nat_eq}
use Rattle.std.specs.List.{starts_with}
use Rattle.ca_plane.specs.Prelude.{IsInteger}
use Rattle.ca_import.specs.CellLines.{CellLine, Nothing, LiveCell, Row, Corner, Rule}

-- the words of a line that says nothing: it is blank, or its first word begins with `#` (our own)
abbrev pub is_remark : List (List ℕ) → Bool
is_remark [] = true
is_remark (w ∷ ws) = starts_with nat_eq w (codes "#")

-- what a line says by its words: two integers are the x and the y of a live cell
abbrev pub Life106WordsSay : List (List ℕ) → CellLine → Type 0
Life106WordsSay words Nothing = IsTrue (is_remark words)
Life106WordsSay words (LiveCell at) = (x : List ℕ) × (y : List ℕ) × (words ≡ x ∷ y ∷ []) × IsInteger x at.x × IsInteger y at.y
Life106WordsSay words (Row cells) = ⊥
Life106WordsSay words (Corner at) = ⊥
Life106WordsSay words (Rule rule) = ⊥
