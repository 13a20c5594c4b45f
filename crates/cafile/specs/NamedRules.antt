-- Claim texts with the rule files of a folder.
use Rattle.std.specs.Prelude.{◌≡◌, ℕ, List, [], ◌∷◌, ◌++◌, All, Bool, true, false, codes}
use Rattle.ca_text.specs.Prelude.{ClaimText, with_rule_line}
use Rattle.ca_report.specs.RulePaths.{rule_path, is_file_name}
use Rattle.ca_host.specs.declared.{files.FaultyFile.FaultyFile}

-- the path under which a rule file of a folder stands among the files: behind a blank where the text's own paths are looked for in a root
abbrev pub label_of : (path : List ℕ) → (has_root : Bool) → List ℕ
label_of path true = codes " " ++ path
label_of path false = path

-- the label is that of the rule file of a folder with some name
pub record IsRuleLabel (folder : List ℕ) (has_root : Bool) (label : List ℕ) : Type 0 where
  pub name : List ℕ
  pub is_name : is_file_name name ≡ true
  pub is_label : label ≡ label_of (rule_path folder name) has_root

-- what the text asks with lines for rule files at these paths at its end
abbrev pub with_rule_lines : ClaimText → (paths : List (List ℕ)) → ClaimText
with_rule_lines asked [] = asked
with_rule_lines asked (path ∷ paths) = with_rule_lines (with_rule_line asked path) paths

-- there are rule lines at the end of the old text, for rule files of the folder
pub record AddsRuleLines (folder : List ℕ) (has_root : Bool) (old new : ClaimText) : Type 0 where
  pub labels : List (List ℕ)
  pub are_labels : All (IsRuleLabel folder has_root) labels
  pub is_new : new ≡ with_rule_lines old labels

-- there is one more faulty rule file at the end, which was found at this path by this name
abbrev pub AddsFaulty : (name path : List ℕ) → (old new : List FaultyFile) → Type 0
AddsFaulty name path old new = (faulty : FaultyFile) × (faulty.name.items ≡ name) × (faulty.path.items ≡ path) × (new ≡ old ++ faulty ∷ [])
