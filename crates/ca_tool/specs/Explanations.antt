-- The lines that explain why nothing is made of a file, and what helps (our own; docs/CLAIMS.md).
use Rattle.std.specs.Prelude.{ℕ, List, [], ◌∷◌, ◌++◌, Bool, true, false, Option, Vec, codes, if◌then◌else◌, not, ◌||◌}
use Rattle.std.specs.declared.alloc.Global.{Global}
use Rattle.ca_text.specs.declared.fault.ClaimFault.{ClaimFault}
use Rattle.ca_text.specs.declared.fault.ClaimFault.TheVariants as claims
use Rattle.ca_pattern.specs.declared.file.File.{File}
use Rattle.ca_report.specs.declared.{detailed_fault.DetailedFault.DetailedFault as RefusedFor, fault.ToolFault.ToolFault}
use Rattle.ca_report.specs.declared.fault.ToolFault.TheVariants as tools
use Rattle.ca_tool.specs.declared.explanation.RunFiles.{RunFiles}
use Rattle.ca_report.specs.Prelude.{run_remedy, remedy_line, begins, file_word, pattern_line, rule_file_line}
use Rattle.ca_identify_lines.specs.Prelude.{is_claim_path}

-- the line that explains a fault of a run over a pattern file: it names the rule file or the pattern file, with what is known of the fault. A fault
-- that names its file, or is about none, has no such line
abbrev pub explanation_of : ToolFault → Option ℕ → Option (Vec ℕ Global) → RunFiles → List ℕ
explanation_of (tools.Input fault) line text files = []
explanation_of (tools.BadTable fault) line text files = rule_file_line files.rule_path.now fault
explanation_of tools.Write line text files = []
explanation_of tools.Memory line text files = []
explanation_of fault line text files = pattern_line files.pattern.path.now line text

abbrev pub fault_line : RefusedFor ToolFault → RunFiles → List ℕ
fault_line refused files = explanation_of refused.fault refused.line refused.rule_text files

-- whether there is such a line
abbrev pub has_explanation : ToolFault → Bool
has_explanation (tools.Input fault) = false
has_explanation tools.Write = false
has_explanation tools.Memory = false
has_explanation fault = true

-- the line that says what helps against it, where something does
abbrev pub run_remedy_line : RefusedFor ToolFault → File → List ℕ
run_remedy_line refused file = remedy_line [] (run_remedy refused.fault file.bytes.now refused.rule_text) file.path.now refused.rule_text

-- both lines
abbrev pub explanation : RefusedFor ToolFault → RunFiles → List ℕ
explanation refused files = fault_line refused files ++ run_remedy_line refused files.pattern

-- a text seems to be a pattern file: it begins as a macrocell does, or as an RLE does with its header, a comment, its name or its author
abbrev pub seems_pattern : List ℕ → Bool
seems_pattern bytes = begins bytes (codes "[M2]") || (begins bytes (codes "x =") || (begins bytes (codes "x=")
    || (begins bytes (codes "#CXRLE") || (begins bytes (codes "#C ") || (begins bytes (codes "#N ") || begins bytes (codes "#O "))))))

-- the line that says what helps against a fault of a claim text at a path, with these bytes, where something does: to identify it
abbrev pub claims_remedy_line : ClaimFault → List ℕ → List ℕ → List ℕ
claims_remedy_line (claims.Syntax line) path bytes = if not (is_claim_path path) || not (seems_pattern bytes) then []
    else codes "  try: cafile identify " ++ (file_word path ++ 10 ∷ [])
claims_remedy_line fault path bytes = []
