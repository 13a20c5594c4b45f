-- How a rule file is read, a line at a time.
use Rattle.std.specs.Prelude.{◌≡◌, ℕ, ◌+◌, List, ◌∷◌, ◌++◌, map, filter, true, false, Some}
use Rattle.std.specs.List.{list_any, enumerate_from}
use Rattle.ca_plane.specs.Prelude.{lines_of}
use Rattle.ca_rule.specs.declared.table.said_lines.{SaidLine.SaidLine, SaidLines.SaidLines}
use Rattle.ca_rule.specs.TableLines.{NumberedLine, content_of, says_something, lines_said, rule_name, begins_table}

-- the lines of these bytes that say something, where the first of all has the number n
abbrev pub said_from : ℕ → List ℕ → List NumberedLine
said_from n bytes = filter says_something (enumerate_from n (map content_of (lines_of bytes)))

-- the lines that are left
abbrev pub left_of : SaidLines → List NumberedLine
left_of lines = said_from (lines.read + 1) lines.left.now

-- a line that is left
abbrev pub said_line : SaidLine → NumberedLine
said_line line = (line.number, line.content.now)

-- the whole text
abbrev pub said_text : SaidLines → List ℕ
said_text lines = lines.text.now

-- the text's first line gives this name, and these lines follow it
pub record HasRuleName (bytes name : List ℕ) (lines : List NumberedLine) : Type 0 where
  pub rule_line : NumberedLine
  pub named : rule_name rule_line ≡ Some name
  pub whole : lines_said bytes ≡ rule_line ∷ lines

-- these lines follow others of which none begins a table
pub record IsBehindSkipped (all lines : List NumberedLine) : Type 0 where
  pub skipped : List NumberedLine
  pub no_table : list_any begins_table skipped ≡ false
  pub whole : all ≡ skipped ++ lines

-- these follow the first line that begins a table
pub record IsBehindTable (all lines : List NumberedLine) : Type 0 where
  pub skipped : List NumberedLine
  pub table_line : NumberedLine
  pub no_table : list_any begins_table skipped ≡ false
  pub begins : begins_table table_line ≡ true
  pub whole : all ≡ skipped ++ table_line ∷ lines
