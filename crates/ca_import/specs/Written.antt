-- What a text of another format is written as, and why nothing is written.
use Rattle.std.specs.Prelude.{◌≡◌, ℕ, ℤ, List, [], Option, None, Some, ◌⊎◌}
use Rattle.ca_plane.specs.Prelude.{IsWord, HasTooManyCells}
use Rattle.ca_rule.specs.declared.{bs_rule.BsRule.BsRule, fault.RuleFault.RuleFault}
use Rattle.ca_rule.specs.declared.fault.RuleFault.TheVariants.{Bounded, Wakes, Unknown}
use Rattle.ca_rule.specs.Prelude.{RuleValue, Bs, states_of, NamesRule, IsRuleFault, printed_form}
use Rattle.ca_pattern.specs.declared.format.Format.{Format}
use Rattle.ca_pattern.specs.declared.format.Format.TheVariants.{Rle}
use Rattle.ca_pattern.specs.Prelude.{IsTidyTextOf}
use Rattle.ca_import.specs.declared.text_fault.ImportTextFault.{ImportTextFault}
use Rattle.ca_import.specs.declared.text_fault.ImportTextFault.TheVariants.{Text, Rule, TooManyCells, Memory}
use Rattle.ca_import.specs.Import.{IsImport, IsImportFaultOn}

-- the rule text that is written, and its number of states, for a text that is asked for: the printed form of the B/S or Generations rule
-- that it names; or the text itself, which names no such rule but is a word, with two states
abbrev pub IsAskedRule : List ℕ → List ℕ → ℕ → Type 0
IsAskedRule text printed states =
    ((rule : RuleValue) × NamesRule text [] rule × (printed ≡ printed_form rule) × (states ≡ states_of rule))
    ⊎ (IsRuleFault text [] Unknown × IsWord text × (printed ≡ text) × (states ≡ 2))

-- the rule that the imported text names is written, and else the one that is asked for
abbrev pub IsWrittenRule : Option BsRule → List ℕ → List ℕ → ℕ → Type 0
IsWrittenRule (Some rule) text printed states = (printed ≡ printed_form (Bs rule)) × (states ≡ 2)
IsWrittenRule None text printed states = IsAskedRule text printed states

-- why a rule text that is asked for isn't written: it has a `:`; it names a rule that wakes the empty plane; or it names no rule and is no
-- word
abbrev pub IsAskedRuleFault : List ℕ → RuleFault → Type 0
IsAskedRuleFault text Bounded = IsRuleFault text [] Bounded
IsAskedRuleFault text Wakes = IsRuleFault text [] Wakes
IsAskedRuleFault text Unknown = IsRuleFault text [] Unknown × (IsWord text → ⊥)

-- the text is what is written of a text of another format, where this rule text is asked for: a tidy one with the cells that it holds,
-- the rule text, and generation 0
pub record IsImportText (bytes asked : List ℕ) (target : Format) (text : List ℕ) : Type 0 where
  pub cells : ℤ → ℤ → ℕ
  pub rule : Option BsRule
  pub printed : List ℕ
  pub states : ℕ
  pub holds : IsImport bytes cells rule
  pub rule_text : IsWrittenRule rule asked printed states
  pub written : IsTidyTextOf target cells printed 0 states text

-- the text holds a pattern of which this is so
abbrev pub HoldsSuch : List ℕ → ((ℤ → ℤ → ℕ) → Option BsRule → Type 0) → Type 0
HoldsSuch bytes P = (cells : ℤ → ℤ → ℕ) × (rule : Option BsRule) × IsImport bytes cells rule × P cells rule

-- why nothing is written: the text has a fault; else it names no rule and the one that is asked for can't be written; else too many cells are
-- live for an RLE. Memory may run out once the text is read
abbrev pub IsImportTextFault : List ℕ → List ℕ → Format → ImportTextFault → Type 0
IsImportTextFault bytes asked target (Text fault) = IsImportFaultOn bytes fault.fault fault.line
IsImportTextFault bytes asked target (Rule fault) = HoldsSuch bytes (λ cells rule. (rule ≡ None) × IsAskedRuleFault asked fault)
IsImportTextFault bytes asked target TooManyCells = (target ≡ Rle) × HoldsSuch bytes (λ cells rule. HasTooManyCells cells)
IsImportTextFault bytes asked target Memory = HoldsSuch bytes (λ cells rule. Unit {0})
