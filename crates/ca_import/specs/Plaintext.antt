-- The lines of a Plaintext (`.cells`) text (LifeWiki, "Plaintext").
use Rattle.std.specs.Prelude.{◌≡◌, ℕ, List, true, codes}
use Rattle.std.specs.Bool.{nat_eq}
use Rattle.std.specs.List.{starts_with}
use Rattle.ca_import.specs.CellLines.{CellLine, Nothing, LiveCell, Row, Corner, Rule}
use Rattle.ca_import.specs.Rows.{is_letter_cell, IsRow}

-- what a line says: one that begins with `!` says nothing, and every other line is a row. Dead cells at the end of a row may be
-- left out, so an empty line is a row without live cells
abbrev pub PlaintextSays : List ℕ → CellLine → Type 0
PlaintextSays line Nothing = starts_with nat_eq line (codes "!") ≡ true
PlaintextSays line (LiveCell at) = ⊥
PlaintextSays line (Row cells) = IsRow is_letter_cell line cells
PlaintextSays line (Corner at) = ⊥
PlaintextSays line (Rule rule) = ⊥
