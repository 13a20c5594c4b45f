-- Rule texts that name no rule, and the files that have them.
use Rattle.std.specs.Prelude.{◌≡◌, ◌↔◌, ℕ, List, Some, IsTrue, slice_get}
use Rattle.std.specs.List.{list_any}
use Rattle.std.specs.Str.{bytes_eq}
use Rattle.ca_rule.specs.Prelude.{TableRule, IsRuleFault}
use Rattle.ca_rule.specs.declared.fault.RuleFault.TheVariants.{Unknown}
use Rattle.ca_text.specs.Prelude.{ClaimText, IsNeeded}
use Rattle.ca_pattern.specs.Prelude.{HoldsRuleText}
use Rattle.ca_answers.specs.Prelude.{SuppliedFiles, AreTables, HoldsOfFile}

-- the bytes are a pattern file that is read, and this is its rule text, which is a name: no rule of its own, and no table's
abbrev pub HoldsUnknownRule : List TableRule → (name bytes : List ℕ) → Type 0
HoldsUnknownRule tables name bytes = HoldsRuleText name bytes × IsRuleFault name tables Unknown

-- the files of the text's rule lines are tables, and the file of a path of the text that its claims need is such a pattern file
pub record IsUnknownRule (files : SuppliedFiles) (asked : ClaimText) (name : List ℕ) : Type 0 where
  pub tables : List TableRule
  pub known : AreTables files asked.rules tables
  pub index : ℕ
  pub path : List ℕ
  pub at : slice_get asked.paths index ≡ Some path
  pub needed : IsNeeded asked path
  pub holds : HoldsOfFile files (HoldsUnknownRule tables name) path

-- the names are all of these
abbrev pub AreUnknownRules : SuppliedFiles → ClaimText → List (List ℕ) → Type 0
AreUnknownRules files asked names = (name : List ℕ) → IsTrue (list_any (bytes_eq name) names) ↔ IsUnknownRule files asked name
