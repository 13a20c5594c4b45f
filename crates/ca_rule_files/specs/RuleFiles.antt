-- Rule files that are written: each is the text of a table by the definitions of rule tables.
use Rattle.std.specs.Prelude.{◌≡◌, ℕ, ◌<◌, ◌-◌, List, ◌++◌, length, All, false, true, not, ◌==◌}
use Rattle.ca_plane.specs.Prelude.{IsWord, Every, text_of}
use Rattle.ca_rule.specs.Prelude.{TableRule, IsSoundTable, table_next, IsTable}
use Rattle.ca_rule_files.specs.WrittenTables.{head_lines, transition_lines}
use Rattle.ca_rule_files.specs.GenerationsTables.{variable_lines, dying_lines}
use Rattle.ca_rule_files.specs.TextRules.{TextRule, Bs, Isotropic, Map, Generations, text_rule_states, text_rule_next, NamesTextRule, IsTextRuleFault}
use Rattle.ca_rule_files.specs.declared.fault.RuleFileFault.{RuleFileFault}
use Rattle.ca_rule_files.specs.declared.fault.RuleFileFault.TheVariants.{Rule, Memory}

-- a name that a rule file can give: a word without `#`, which begins a comment
pub record IsTableName (name : List ℕ) : Type 0 where
  pub word : IsWord name
  pub no_comment : Every (λ b. not (b == 35)) name

-- the file is the text of a table of this name and this many states, under which each cell has this next state, whatever it
-- and its eight neighbours are
pub record WritesRule (name : List ℕ) (states : ℕ) (next : List ℕ → ℕ) (file : List ℕ) : Type 0 where
  pub table : TableRule
  pub is_table : IsTable file table
  pub sound : IsSoundTable table
  pub named : table.name ≡ name
  pub states_are : table.states ≡ states
  pub next_is : (nine : List ℕ) → length nine ≡ 9 → All (λ s. s < states) nine → table_next table nine ≡ next nine

-- the bytes of the file of a rule of two states: the head, and a transition for each of the 512 neighbourhoods whose centre changes
abbrev pub two_state_bytes : List ℕ → (List ℕ → ℕ) → List ℕ
two_state_bytes name next = text_of (head_lines name 2) ++ text_of (transition_lines false next 512)

-- the bytes of the file of a Generations rule: the head, the 16 variables, the transitions of dead and live cells, and those of dying ones
abbrev pub generations_bytes : List ℕ → ℕ → (List ℕ → ℕ) → List ℕ
generations_bytes name states next =
    ((text_of (head_lines name states) ++ text_of (variable_lines states 16)) ++ text_of (transition_lines true next 512)) ++ text_of (dying_lines states (states - 2))

-- the bytes of the file of a rule
abbrev pub rule_file_bytes : List ℕ → TextRule → List ℕ
rule_file_bytes name (Bs rule) = two_state_bytes name (text_rule_next (Bs rule))
rule_file_bytes name (Isotropic birth survival) = two_state_bytes name (text_rule_next (Isotropic birth survival))
rule_file_bytes name (Map characters) = two_state_bytes name (text_rule_next (Map characters))
rule_file_bytes name (Generations rule) = generations_bytes name rule.states (text_rule_next (Generations rule))

-- the file writes the rule that the text names, has the text for its name, and just these bytes, which Golly reads too
pub record WritesTextRule (text file : List ℕ) : Type 0 where
  pub rule : TextRule
  pub names : NamesTextRule text rule
  pub writes : WritesRule text (text_rule_states rule) (text_rule_next rule) file
  pub bytes : file ≡ rule_file_bytes text rule

-- why no file is written: the text names no rule, for this reason, or there is no memory
abbrev pub IsRuleFileFault : List ℕ → RuleFileFault → Type 0
IsRuleFileFault text (Rule fault) = IsTextRuleFault text fault
IsRuleFileFault text Memory = Unit {0}
