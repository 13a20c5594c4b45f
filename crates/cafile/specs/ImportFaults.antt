-- The line that says why a text of another format isn't imported (our own; docs/CLAIMS.md).
use Rattle.std.specs.Prelude.{ℕ, List, [], ◌∷◌, ◌++◌, codes, decimal, Option, None, Some}
use Rattle.ca_import.specs.declared.{fault.ImportFault.ImportFault, text_fault.ImportTextFault.ImportTextFault}
use Rattle.ca_import.specs.declared.fault.ImportFault.TheVariants as faults
use Rattle.ca_import.specs.declared.text_fault.ImportTextFault.TheVariants as texts
use Rattle.ca_pattern.specs.Prelude.{rule_fault_text}

-- what is wrong with a text or with one of its lines
abbrev pub import_fault_name : ImportFault → List ℕ
import_fault_name faults.UnknownFormat = codes "unknown format"
import_fault_name faults.Syntax = codes "syntax"
import_fault_name faults.NoCorner = codes "no corner"
import_fault_name faults.Range = codes "range"
import_fault_name faults.TooManyCells = codes "too many cells"
import_fault_name faults.Memory = codes "memory"

-- the same, after the number of the line, where it stands on one
abbrev pub line_fault_text : ImportFault → Option ℕ → List ℕ
line_fault_text fault None = import_fault_name fault
line_fault_text fault (Some line) = codes "import line " ++ (decimal line ++ (codes ": " ++ import_fault_name fault))

-- why nothing is printed of a text
abbrev pub import_fault_text : ImportTextFault → List ℕ
import_fault_text (texts.Text fault) = line_fault_text fault.fault fault.line
import_fault_text (texts.Rule fault) = codes "bad rule: " ++ rule_fault_text fault
import_fault_text texts.TooManyCells = codes "too many cells"
import_fault_text texts.Memory = codes "memory"

-- the line that says so
abbrev pub import_complaint : ImportTextFault → List ℕ
import_complaint fault = codes "cafile: " ++ (import_fault_text fault ++ 10 ∷ [])
