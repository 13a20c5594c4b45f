-- The line that tells a fault (our own; docs/CLAIMS.md).
use Rattle.std.specs.Prelude.{ℕ, List, [], ◌∷◌, ◌++◌, codes, decimal}
use Rattle.ca_rule.specs.declared.table.fault.TableFault.{TableFault}
use Rattle.ca_text.specs.declared.fault.ClaimFault.{ClaimFault}
use Rattle.ca_text.specs.declared.fault.ClaimFault.TheVariants as claims
use Rattle.ca_pattern.specs.declared.convert_fault.ConvertFault.{ConvertFault}
use Rattle.ca_pattern.specs.declared.convert_fault.ConvertFault.TheVariants as converts
use Rattle.ca_tool.specs.declared.fault.Fault.{Fault}
use Rattle.ca_tool.specs.declared.fault.Fault.TheVariants as faults
use Rattle.ca_report.specs.declared.fault.{InputFault.InputFault, ToolFault.ToolFault}
use Rattle.ca_report.specs.declared.fault.InputFault.TheVariants as inputs
use Rattle.ca_draw.specs.declared.view.WindowFault.{WindowFault}
use Rattle.ca_draw.specs.declared.view.WindowFault.TheVariants as windows
use Rattle.ca_report.specs.declared.fault.ToolFault.TheVariants as tools
use Rattle.ca_report.specs.Prelude.{escaped}
use Rattle.ca_pattern.specs.Prelude.{rule_fault_text, table_text, pattern_fault_text}

-- why the `--rule` file is no good table
abbrev pub rule_file_text : TableFault → List ℕ
rule_file_text fault = table_text (λ line. codes "bad table: line " ++ decimal line) fault

-- a faulty line of a claim text
abbrev pub claim_fault_text : ClaimFault → List ℕ
claim_fault_text (claims.Syntax line) = codes "claims line " ++ (decimal line ++ codes ": syntax")
claim_fault_text (claims.Number line) = codes "claims line " ++ (decimal line ++ codes ": number")
claim_fault_text (claims.UnknownName line) = codes "claims line " ++ (decimal line ++ codes ": unknown name")
claim_fault_text (claims.NameTaken line) = codes "claims line " ++ (decimal line ++ codes ": name taken")
claim_fault_text claims.Memory = codes "memory"

-- a file that can't be read
abbrev pub input_fault_text : InputFault → List ℕ → List ℕ
input_fault_text inputs.Read path = codes "cannot read " ++ escaped path
input_fault_text inputs.TooLong path = codes "too long " ++ escaped path
input_fault_text inputs.Memory path = codes "memory"

-- why a pattern isn't shown or converted
abbrev pub convert_fault_text : ConvertFault → List ℕ
convert_fault_text (converts.BadPattern fault) = pattern_fault_text fault
convert_fault_text (converts.BadRule fault) = codes "bad rule: " ++ rule_fault_text fault
convert_fault_text converts.StateTooLarge = codes "state too large"
convert_fault_text converts.TooManyCells = codes "too many cells"
convert_fault_text converts.Memory = codes "memory"

-- why there is no window as it is asked for
abbrev pub window_fault_text : WindowFault → List ℕ
window_fault_text windows.Range = codes "window out of range"
window_fault_text windows.TooLarge = codes "window too large"

-- a run that failed, over the file of this path
abbrev pub tool_fault_text : ToolFault → List ℕ → List ℕ
tool_fault_text (tools.Input fault) path = input_fault_text fault path
tool_fault_text (tools.BadTable fault) path = rule_file_text fault
tool_fault_text (tools.Convert fault) path = convert_fault_text fault
tool_fault_text tools.GenTooLarge path = codes "gen too large"
tool_fault_text tools.Work path = codes "work"
tool_fault_text tools.Range path = codes "range"
tool_fault_text (tools.Window fault) path = window_fault_text fault
tool_fault_text tools.Write path = codes "write"
tool_fault_text tools.Memory path = codes "memory"

-- a fault of the program, path being the file that was read
abbrev pub fault_text : Fault → List ℕ → List ℕ
fault_text (faults.Input fault) path = input_fault_text fault path
fault_text (faults.Claims fault) path = claim_fault_text fault
fault_text (faults.Tool fault) path = tool_fault_text fault path
fault_text faults.Taken path = escaped path ++ codes " is there already"
fault_text faults.Unwritten path = codes "cannot write " ++ escaped path
fault_text faults.Unnameable path = codes "no claim text can name " ++ escaped path

-- the line that tells a fault
abbrev pub complaint : Fault → List ℕ → List ℕ
complaint fault path = codes "cafile: " ++ (fault_text fault path ++ 10 ∷ [])

-- the same, after the path of the file that was read: for faults of several files
abbrev pub complaint_of : Fault → List ℕ → List ℕ
complaint_of fault path = codes "cafile: " ++ (escaped path ++ (codes ": " ++ (fault_text fault path ++ 10 ∷ [])))
