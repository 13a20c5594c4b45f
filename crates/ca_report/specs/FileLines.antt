-- The lines that tell which file a refusal is about (our own; docs/CLAIMS.md).
use Rattle.std.specs.Prelude.{ℕ, List, [], ◌∷◌, ◌++◌, Option, None, Some, Vec, codes, decimal, if◌then◌else◌}
use Rattle.std.specs.declared.alloc.Global.{Global}
use Rattle.std.specs.Str.{bytes_eq}
use Rattle.ca_rule.specs.declared.table.fault.TableFault.{TableFault}
use Rattle.ca_report.specs.declared.absence.{Absence.Absence, MissingFile.MissingFile}
use Rattle.ca_report.specs.declared.absence.Absence.TheVariants as absences
use Rattle.ca_report.specs.Escaped.{escaped}
use Rattle.ca_pattern.specs.Prelude.{table_line}

-- on which line a file is faulty, where it has such a line
abbrev pub at_line : Option ℕ → List ℕ
at_line None = []
at_line (Some line) = codes ", line " ++ decimal line

-- why no file of a path is supplied
abbrev pub absence_text : Absence → List ℕ
absence_text absences.NoFile = codes "no such file"
absence_text absences.Folder = codes "a folder"
absence_text absences.Unreadable = codes "it can't be read"
absence_text absences.TooLong = codes "more than 67108864 bytes"
absence_text absences.NotUtf8 = codes "not UTF-8"
absence_text absences.Outside = codes "outside the root"

-- the first of some missing files with this path
abbrev pub missing_at : List MissingFile → List ℕ → Option MissingFile
missing_at [] path = None
missing_at (f ∷ fs) path = if bytes_eq f.path.now path then Some f else missing_at fs path

-- why a missing file isn't there
abbrev pub absence_words : Option MissingFile → List ℕ
absence_words None = []
absence_words (Some file) = codes ": " ++ absence_text file.why

-- why there is no file of a path, where that is known
abbrev pub missing_words : List MissingFile → List ℕ → List ℕ
missing_words missing path = absence_words (missing_at missing path)

-- the line about a file, with the name of what it holds, and why it is missing or on which line it is faulty
abbrev pub file_line : List ℕ → List MissingFile → List ℕ → List ℕ → Option ℕ → List ℕ
file_line before missing name path line =
    before ++ (codes "  " ++ (escaped name ++ (codes ": " ++ (escaped path ++ (missing_words missing path ++ (at_line line ++ 10 ∷ []))))))

-- a rule text that names no rule
abbrev pub rule_words : Option (Vec ℕ Global) → List ℕ
rule_words None = []
rule_words (Some text) = codes ": rule " ++ escaped text.items

-- the line about a pattern file
abbrev pub pattern_line : List ℕ → Option ℕ → Option (Vec ℕ Global) → List ℕ
pattern_line path line text = codes "  " ++ (escaped path ++ (at_line line ++ (rule_words text ++ 10 ∷ [])))

-- the line about a rule file that is no good table
abbrev pub rule_file_line : List ℕ → TableFault → List ℕ
rule_file_line path fault = file_line [] [] (codes "rule file") path (Some (table_line fault))
