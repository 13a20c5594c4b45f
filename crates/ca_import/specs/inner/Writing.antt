-- How a pattern is written: its rule text, and its cells.
use Rattle.std.specs.Prelude.{◌≡◌, ℕ, ◌≤◌, ℤ, List, Option, None}
use Rattle.ca_plane.specs.Prelude.{IsWord, bit_cell, HasTooManyCells}
use Rattle.ca_rule.specs.declared.bs_rule.BsRule.{BsRule}
use Rattle.ca_rule.specs.Prelude.{RuleValue, states_of, printed_form}
use Rattle.ca_pattern.specs.declared.format.Format.{Format}
use Rattle.ca_pattern.specs.declared.format.Format.TheVariants.{Rle}
use Rattle.ca_pattern.specs.Prelude.{IsTidyTextOf}
use Rattle.ca_import.specs.declared.{text_fault.ImportTextFault.ImportTextFault, import.ImportedPattern.ImportedPattern, rule_text.RuleText.RuleText}
use Rattle.ca_import.specs.declared.text_fault.ImportTextFault.TheVariants.{Rule, TooManyCells, Memory}
use Rattle.ca_import.specs.Written.{IsAskedRule, IsAskedRuleFault, IsWrittenRule}

-- ---- rule texts

-- the text is a word, and there are two states or more
pub record IsWritableRule (rule : RuleText) : Type 0 where
  pub is_word : IsWord rule.text.items
  pub states : 2 ≤ rule.states

-- the printed form of a rule, and its number of states
pub record IsPrinted (value : RuleValue) (rule : RuleText) : Type 0 where
  pub printed : rule.text.items ≡ printed_form value
  pub states : rule.states ≡ states_of value
  pub writable : IsWritableRule rule

-- what is written of a text that is asked for
pub record IsAskedText (asked : List ℕ) (rule : RuleText) : Type 0 where
  pub asked_is : IsAskedRule asked rule.text.items rule.states
  pub writable : IsWritableRule rule

-- or of a rule that is named, where one is
pub record IsWrittenText (named : Option BsRule) (asked : List ℕ) (rule : RuleText) : Type 0 where
  pub written_is : IsWrittenRule named asked rule.text.items rule.states
  pub writable : IsWritableRule rule

-- why nothing is written of a text that is asked for
abbrev pub IsAskedRefused : List ℕ → ImportTextFault → Type 0
IsAskedRefused asked (Rule fault) = IsAskedRuleFault asked fault
IsAskedRefused asked Memory = Unit {0}
IsAskedRefused asked fault = ⊥

-- the same where a rule may be named
abbrev pub IsRuleRefused : Option BsRule → List ℕ → ImportTextFault → Type 0
IsRuleRefused named asked (Rule fault) = (named ≡ None) × IsAskedRuleFault asked fault
IsRuleRefused named asked Memory = Unit {0}
IsRuleRefused named asked fault = ⊥

-- ---- cells

-- why cells aren't written
abbrev pub AreUnwritten : Format → (ℤ → ℤ → ℕ) → ImportTextFault → Type 0
AreUnwritten target cells TooManyCells = (target ≡ Rle) × HasTooManyCells cells
AreUnwritten target cells Memory = Unit {0}
AreUnwritten target cells fault = ⊥

-- ---- both

-- the text is what is written of a pattern, where this rule text is asked for
pub record IsPatternText (pattern : ImportedPattern) (asked : List ℕ) (target : Format) (text : List ℕ) : Type 0 where
  pub rule : RuleText
  pub rule_text : IsWrittenRule pattern.rule asked rule.text.items rule.states
  pub written : IsTidyTextOf target (bit_cell pattern.cells) rule.text.items 0 rule.states text

-- why nothing is written of it
abbrev pub IsPatternTextFault : ImportedPattern → List ℕ → Format → ImportTextFault → Type 0
IsPatternTextFault pattern asked target TooManyCells = (target ≡ Rle) × HasTooManyCells (bit_cell pattern.cells)
IsPatternTextFault pattern asked target (Rule fault) = (pattern.rule ≡ None) × IsAskedRuleFault asked fault
IsPatternTextFault pattern asked target Memory = Unit {0}
IsPatternTextFault pattern asked target fault = ⊥
