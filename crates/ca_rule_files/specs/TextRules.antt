-- The rule that a text names: one in B/S notation, an isotropic one, a MAP string, or a Generations rule; and what is wrong with
-- a text that names none.
use Rattle.std.specs.Prelude.{◌≡◌, ℕ, List, true, ◌⊎◌}
use Rattle.ca_rule.specs.Next as bs
use Rattle.ca_rule.specs.Prelude.{NamesBsRule, SpellsNoBsRule, IsBsRuleFault, has_colon, generations_next, NamesGenerationsRule, IsGenerationsRuleFault}
use Rattle.ca_rule.specs.declared.{bs_rule.BsRule.BsRule, gen_rule.GenRule.GenRule, fault.RuleFault.RuleFault}
use Rattle.ca_rule.specs.declared.fault.RuleFault.TheVariants.{Bounded, Wakes, Unknown}
use Rattle.ca_rule_files.specs.Isotropic.{NamesIsotropicRule, IsIsotropicRuleFault, isotropic_next}
use Rattle.ca_rule_files.specs.Map.{NamesMap, IsMapFault, map_next}

-- a rule in B/S notation; an isotropic one by its birth and survival kinds; a MAP string by its characters; or a Generations rule
pub data TextRule : Type 0 where
  Bs : BsRule → TextRule
  Isotropic : List ℕ → List ℕ → TextRule
  Map : List ℕ → TextRule
  Generations : GenRule → TextRule

-- how many states a cell can have: two, but under a Generations rule
abbrev pub text_rule_states : TextRule → ℕ
text_rule_states (Bs rule) = 2
text_rule_states (Isotropic birth survival) = 2
text_rule_states (Map characters) = 2
text_rule_states (Generations rule) = rule.states

-- the next state of the centre of nine cells
abbrev pub text_rule_next : TextRule → List ℕ → ℕ
text_rule_next (Bs rule) nine = bs.bs_next rule.hood rule.birth rule.survival nine
text_rule_next (Isotropic birth survival) nine = isotropic_next birth survival nine
text_rule_next (Map characters) nine = map_next characters nine
text_rule_next (Generations rule) nine = generations_next rule.survival rule.birth rule.states nine

-- the text names the rule. One that spells a B/S rule is that, and not the isotropic one that it also spells
abbrev pub NamesTextRule : List ℕ → TextRule → Type 0
NamesTextRule text (Bs rule) = NamesBsRule text rule
NamesTextRule text (Isotropic birth survival) = SpellsNoBsRule text × NamesIsotropicRule text birth survival
NamesTextRule text (Map characters) = NamesMap text characters
NamesTextRule text (Generations rule) = NamesGenerationsRule text rule

-- the fault of a text that names no rule: a bounded grid, else a rule that wakes the empty plane, else none
abbrev pub IsTextRuleFault : List ℕ → RuleFault → Type 0
IsTextRuleFault text Bounded = has_colon text ≡ true
IsTextRuleFault text Wakes =
    IsBsRuleFault text Wakes ⊎ ((SpellsNoBsRule text × IsIsotropicRuleFault text Wakes) ⊎ (IsMapFault text Wakes ⊎ IsGenerationsRuleFault text Wakes))
IsTextRuleFault text Unknown = IsBsRuleFault text Unknown × IsIsotropicRuleFault text Unknown × IsMapFault text Unknown × IsGenerationsRuleFault text Unknown
