-- What is printed of a pattern (our own; docs/COMMANDS.md).
use Rattle.std.specs.Prelude.{ℕ, ℤ, List, [], ◌∷◌, ◌++◌, Option, None, Some, codes, decimal}
use Rattle.std.specs.Fmt.{signed_decimal}
use Rattle.ca_plane.specs.declared.point.Bounds.{Bounds}
use Rattle.ca_pattern.specs.Prelude.{format_name}
use Rattle.ca_pattern.specs.declared.pattern.Summary.{Summary}
use Rattle.ca_report.specs.Prelude.{side_length}

-- two numbers
abbrev pub pair_text : ℤ → ℤ → List ℕ
pair_text a b = signed_decimal a ++ (codes " " ++ signed_decimal b)

-- a box: its upper left corner, its width and its height
abbrev pub bounds_text : Bounds → List ℕ
bounds_text box = pair_text box.x0 box.y0 ++ (codes " " ++ pair_text (side_length box.x0 box.x1) (side_length box.y0 box.y1))

-- the box round live cells, where there are any
abbrev pub box_text : Option Bounds → List ℕ
box_text None = codes "none"
box_text (Some box) = bounds_text box

-- a line of a word and what comes after it
abbrev pub word_line : List ℕ → List ℕ → List ℕ
word_line word text = word ++ (32 ∷ (text ++ 10 ∷ []))

-- what is shown of a pattern, in five lines
abbrev pub summary_text : Summary → List ℕ
summary_text summary =
    word_line (codes "format") (format_name summary.kind) ++ (word_line (codes "rule") summary.rule_text.items
    ++ (word_line (codes "gen") (decimal summary.generation) ++ (word_line (codes "cells") (decimal summary.cells)
    ++ word_line (codes "box") (box_text summary.bounds))))
