-- What a text of another format holds, and what is wrong with one: its first faulty line decides (our own order in a line).
use Rattle.std.specs.Prelude.{◌≡◌, ℕ, ◌+◌, ◌<◌, ◌≤◌, ℤ, pos, List, [], ◌∷◌, ◌++◌, length, Bool, false, not, ◌||◌, ◌==◌, if◌then◌else◌, Option, None, Some, codes, count_by, option_and_then}
use Rattle.std.specs.List.{list_all}
use Rattle.std.specs.Str.{bytes_eq}
use Rattle.ca_plane.specs.declared.point.Point.{Point}
use Rattle.ca_plane.specs.Prelude.{letter, is_blank, is_line_end, is_word_byte, front, rest, trimmed, lines_of, words_of, most_cells, from_corner}
use Rattle.ca_apgcode.specs.Prelude.{GridCells, cell, IsCode}
use Rattle.ca_rule.specs.declared.bs_rule.BsRule.{BsRule}
use Rattle.ca_import.specs.declared.{format.ImportFormat.ImportFormat, format.LineFormat.LineFormat, fault.ImportFault.ImportFault}
use Rattle.ca_import.specs.declared.format.ImportFormat.TheVariants.{Lines, Apgcode}
use Rattle.ca_import.specs.declared.format.LineFormat.TheVariants.{Life106, Life105, Plaintext}
use Rattle.ca_import.specs.declared.fault.ImportFault.TheVariants.{UnknownFormat, Syntax, NoCorner, Range, TooManyCells, Memory}
use Rattle.ca_import.specs.{CellLines.CellLine, CellLines.next_row, CellLines.row_after, CellLines.said_state, CellLines.last_said_rule, CellLines.live_count, CellLines.said_count}
use Rattle.ca_import.specs.{CellLines.HasPlace, CellLines.IsLineInRange, Rows.is_letter_cell, Life106.Life106WordsSay, Life105.Life105Says, Plaintext.PlaintextSays, Apgcode.after_head}

-- ---- the format of a text

-- the first line names the format by this text, but for blanks at its ends
abbrev pub has_first_line : List ℕ → List ℕ → Bool
has_first_line bytes text = bytes_eq (trimmed (front (λ b. not (is_line_end b)) bytes)) text

-- a blank, or a line end
abbrev pub is_white : ℕ → Bool
is_white b = is_blank b || is_line_end b

-- the first byte begins a comment or a row of a Plaintext
abbrev pub begins_cells : List ℕ → Bool
begins_cells [] = false
begins_cells (b ∷ bs) = (b == letter "!") || is_letter_cell b

-- so does the first that is no blank and no line end
abbrev pub begins_plaintext : List ℕ → Bool
begins_plaintext bytes = begins_cells (rest is_white bytes)

-- the format of a text of lines, where it is one of these (how a Plaintext is recognised is our own)
abbrev pub line_format : List ℕ → Option LineFormat
line_format bytes =
    if has_first_line bytes (codes "#Life 1.06") then Some Life106
    else (if has_first_line bytes (codes "#Life 1.05") then Some Life105
    else (if begins_plaintext bytes then Some Plaintext else None))

-- the word that the bytes begin with, where only blanks and line ends follow it
abbrev pub word_alone : List ℕ → Option (List ℕ)
word_alone bytes = if list_all is_white (rest is_word_byte bytes) then Some (front is_word_byte bytes) else None

-- what follows the head of an apgcode that is the only word of a text
abbrev pub representation_text : List ℕ → Option (List ℕ)
representation_text bytes = option_and_then after_head (word_alone (rest is_white bytes))

-- a text that is in no format of lines is an apgcode where such a head begins its only word
abbrev pub format_of : Option LineFormat → Option (List ℕ) → Option ImportFormat
format_of (Some format) text = Some (Lines format)
format_of None (Some text) = Some Apgcode
format_of None None = None

-- the format of a text, where it is one of these
abbrev pub import_format : List ℕ → Option ImportFormat
import_format bytes = format_of (line_format bytes) (representation_text bytes)

-- ---- what a text of lines holds

-- what a line says in a format
abbrev pub LineSays : LineFormat → List ℕ → CellLine → Type 0
LineSays Life106 line said = Life106WordsSay (words_of line) said
LineSays Life105 line said = Life105Says line said
LineSays Plaintext line said = PlaintextSays line said

-- where the first row of a text begins: a Plaintext's at (0, 0), and that of a Life 1.05 nowhere before a corner
abbrev pub first_row : LineFormat → Option Point
first_row Life106 = None
first_row Life105 = None
first_row Plaintext = Some (record { y = pos 0; x = pos 0 })

-- a line that says this is good, where the next row begins at a place and `count` live cells are named before
pub record IsGoodLine (said : CellLine) (place : Option Point) (count : ℕ) : Type 0 where
  pub placed : HasPlace said place
  pub within : IsLineInRange said place
  pub few : count + live_count said ≤ most_cells

-- lines that follow others, what each of them says, and that all of them are good
abbrev pub LinesSay : LineFormat → Option Point → ℕ → List (List ℕ) → List CellLine → Type 0
LinesSay format place count [] [] = Unit {0}
LinesSay format place count [] (s ∷ said) = ⊥
LinesSay format place count (l ∷ ls) [] = ⊥
LinesSay format place count (l ∷ ls) (s ∷ said) =
    LineSays format l s × IsGoodLine s place count × LinesSay format (next_row s place) (count + live_count s) ls said

-- the lines of the bytes are good in the format, make the live cells live, and name this rule, or none
pub record LinesHold (format : LineFormat) (bytes : List ℕ) (cells : ℤ → ℤ → ℕ) (rule : Option BsRule) : Type 0 where
  pub said : List CellLine
  pub say : LinesSay format (first_row format) 0 (lines_of bytes) said
  pub cells_are : (x y : ℤ) → cells x y ≡ said_state (first_row format) said x y
  pub rule_is : rule ≡ last_said_rule None said

-- ---- what a text holds

-- the bytes are an apgcode, whose cells these are: the north-western cell of their smallest box is at (0, 0) (our own).
-- It names no rule, and its kind and its number aren't judged
pub record CodeHolds (bytes : List ℕ) (cells : ℤ → ℤ → ℕ) (rule : Option BsRule) : Type 0 where
  pub text : List ℕ
  pub box : GridCells
  pub text_is : representation_text bytes ≡ Some text
  pub is_code : IsCode box text
  pub cells_are : (x y : ℤ) → cells x y ≡ from_corner (cell box) x y
  pub rule_is : rule ≡ None

-- what the bytes hold in a format
abbrev pub HoldsIn : ImportFormat → List ℕ → (ℤ → ℤ → ℕ) → Option BsRule → Type 0
HoldsIn (Lines format) bytes cells rule = LinesHold format bytes cells rule
HoldsIn Apgcode bytes cells rule = CodeHolds bytes cells rule

-- the bytes are a text of one of the formats, whose cells have these states, and which names this rule, or none
pub record IsImport (bytes : List ℕ) (cells : ℤ → ℤ → ℕ) (rule : Option BsRule) : Type 0 where
  pub format : ImportFormat
  pub begins : import_format bytes ≡ Some format
  pub holds : HoldsIn format bytes cells rule

-- ---- what is wrong with a text

-- the line says something of which this holds
abbrev pub SaysSuch : LineFormat → List ℕ → (CellLine → Type 0) → Type 0
SaysSuch format line P = (s : CellLine) × LineSays format line s × P s

-- the fault of a line, where the next row begins at a place and `count` live cells are named before: it says nothing
-- that the format knows; else it is a row before any corner; else out of range; else it names too many live cells.
-- Memory runs out at good lines alone
abbrev pub IsLineFault : ImportFault → LineFormat → Option Point → ℕ → List ℕ → Type 0
IsLineFault UnknownFormat format place count line = ⊥
IsLineFault Syntax format place count line = (s : CellLine) → LineSays format line s → ⊥
IsLineFault NoCorner format place count line = SaysSuch format line (λ s. HasPlace s place → ⊥)
IsLineFault Range format place count line = SaysSuch format line (λ s. HasPlace s place × (IsLineInRange s place → ⊥))
IsLineFault TooManyCells format place count line = SaysSuch format line (λ s. HasPlace s place × IsLineInRange s place × (most_cells < count + live_count s))
IsLineFault Memory format place count line = SaysSuch format line (λ s. IsGoodLine s place count)

-- a line after good lines has the fault, and this is its number
pub record HasFaultyLine (format : LineFormat) (bytes : List ℕ) (fault : ImportFault) (number : ℕ) : Type 0 where
  pub good : List (List ℕ)
  pub line : List ℕ
  pub later : List (List ℕ)
  pub said : List CellLine
  pub lines_are : lines_of bytes ≡ good ++ line ∷ later
  pub say : LinesSay format (first_row format) 0 good said
  pub faulty : IsLineFault fault format (row_after (first_row format) said) (said_count said) line
  pub number_is : number ≡ length good + 1

-- the fault of an apgcode by what follows its head: no cells have this representation. Memory may run out whatever the text is
abbrev pub IsCodeFault : ImportFault → List ℕ → Type 0
IsCodeFault Syntax text = (box : GridCells) → IsCode box text → ⊥
IsCodeFault Memory text = Unit {0}
IsCodeFault fault text = ⊥

-- the bytes are an apgcode with the fault, and this is the number of its line
pub record HasFaultyCode (bytes : List ℕ) (fault : ImportFault) (number : ℕ) : Type 0 where
  pub text : List ℕ
  pub text_is : representation_text bytes ≡ Some text
  pub faulty : IsCodeFault fault text
  pub number_is : number ≡ count_by is_line_end (front is_white bytes) + 1

-- the fault of the bytes in a format, and the number of its line
abbrev pub HasFaultIn : ImportFormat → List ℕ → ImportFault → ℕ → Type 0
HasFaultIn (Lines format) bytes fault number = HasFaultyLine format bytes fault number
HasFaultIn Apgcode bytes fault number = HasFaultyCode bytes fault number

-- the bytes are a text of one of the formats, and it has the fault on the line of this number
pub record HasFaultOn (bytes : List ℕ) (fault : ImportFault) (number : ℕ) : Type 0 where
  pub format : ImportFormat
  pub begins : import_format bytes ≡ Some format
  pub faulty : HasFaultIn format bytes fault number

-- the fault of a text and the number of its line: an unknown format and want of memory have none
abbrev pub IsImportFaultOn : List ℕ → ImportFault → Option ℕ → Type 0
IsImportFaultOn bytes UnknownFormat line = (line ≡ None) × (import_format bytes ≡ None)
IsImportFaultOn bytes Memory line = (line ≡ None) × (n : ℕ) × HasFaultOn bytes Memory n
IsImportFaultOn bytes fault line = (n : ℕ) × (line ≡ Some n) × HasFaultOn bytes fault n
