-- Rules of every kind: what a cell is next, how many states there are, which rules are the same, and how a rule is named
-- and printed. Another kind of rule is one more case of each of these.
use Rattle.std.specs.Prelude.{◌≡◌, ◌⊎◌, ℕ, List, false, Option, Some, None, find}
use Rattle.std.specs.Str.{bytes_eq}
use Rattle.ca_plane.specs.declared.counting.{Ageing.Ageing, Counting.Counting}
use Rattle.ca_rule.specs.{Counts.is_count, TableNext.TableRule, TableNext.IsSoundTable, TableNext.table_next}
use Rattle.ca_rule.specs.Generations as generations
use Rattle.ca_rule.specs.Next as bs
use Rattle.ca_rule.specs.Masks as bs_masks
use Rattle.ca_rule.specs.Spelling as bs_text
use Rattle.ca_rule.specs.declared.{bs_rule.BsRule.BsRule, fault.RuleFault.RuleFault, gen_rule.GenRule.GenRule, rule.Rule.Rule}
use Rattle.ca_rule.specs.declared.fault.RuleFault.TheVariants.{Bounded, Wakes, Unknown}
use Rattle.ca_rule.specs.declared.rule.Rule.TheVariants as rule

-- a rule of any kind: one in B/S notation, one of the family Generations, or a table
pub data RuleValue : Type 0 where
  Bs : BsRule → RuleValue
  Gen : GenRule → RuleValue
  Tab : TableRule → RuleValue

-- the rule that a program holds, of a table by a reference
abbrev pub rule_value : Rule → RuleValue
rule_value (rule.Bs bs) = Bs bs
rule_value (rule.Gen gen) = Gen gen
rule_value (rule.Tab table) = Tab table.now

-- how many states a cell can have: two under a B/S rule
abbrev pub states_of : RuleValue → ℕ
states_of (Bs rule) = 2
states_of (Gen rule) = rule.states
states_of (Tab table) = table.states

-- the next state of the centre of nine cells
abbrev pub next_of : RuleValue → List ℕ → ℕ
next_of (Bs rule) nine = bs.bs_next rule.hood rule.birth rule.survival nine
next_of (Gen rule) nine = generations.generations_next rule.survival rule.birth rule.states nine
next_of (Tab table) nine = table_next table nine

-- its masks: those of a B/S rule that counts all eight neighbours
abbrev pub masks_of : RuleValue → Option (ℕ × ℕ)
masks_of (Bs rule) = bs_masks.masks_by_hood rule.hood rule.birth rule.survival
masks_of (Gen rule) = None
masks_of (Tab table) = None

-- how it counts neighbours: a B/S rule by its counts, as masks
abbrev pub counting_of : RuleValue → Option Counting
counting_of (Bs rule) = Some (bs_masks.counting_by_hood rule.hood rule.birth rule.survival)
counting_of (Gen rule) = None
counting_of (Tab table) = None

-- how its live cells age: of a Generations rule by its counts, as masks, and its states
abbrev pub ageing_of : RuleValue → Option Ageing
ageing_of (Bs rule) = None
ageing_of (Gen rule) = Some (generations.ageing_by_counts rule.birth rule.survival rule.states)
ageing_of (Tab table) = None

-- states lead to states, and the empty plane stays empty: a B/S or Generations rule gives no birth at a count of 0
abbrev pub IsSoundRule : RuleValue → Type 0
IsSoundRule (Bs rule) = is_count rule.birth 0 ≡ false
IsSoundRule (Gen rule) = generations.IsSoundGenerations rule.birth rule.states
IsSoundRule (Tab table) = IsSoundTable table

-- two rules are the same: both B/S rules, with one neighbourhood and the same counts for birth and for survival, both
-- Generations rules, with the same counts and as many states, or both tables, with one name
abbrev pub IsSameRule : RuleValue → RuleValue → Type 0
IsSameRule (Bs r) (Bs s) = (r.hood ≡ s.hood) × (r.birth ≡ s.birth) × (r.survival ≡ s.survival)
IsSameRule (Gen r) (Gen s) = (r.survival ≡ s.survival) × (r.birth ≡ s.birth) × (r.states ≡ s.states)
IsSameRule (Tab t) (Tab u) = t.name ≡ u.name
IsSameRule r s = ⊥

-- the first table of this name, byte for byte
abbrev pub first_named : List ℕ → List TableRule → Option TableRule
first_named name tables = find (λ (t : TableRule). bytes_eq t.name name) tables

-- the text names the rule among the tables: it has no `:`, and it spells that B/S or Generations rule, which gives no
-- birth at a count of 0, or spells neither kind, and that is the first table of this name
abbrev pub NamesRule : List ℕ → List TableRule → RuleValue → Type 0
NamesRule text tables (Bs rule) = (bs_text.has_colon text ≡ false) × bs_text.NamesBsRule text rule
NamesRule text tables (Gen rule) = (bs_text.has_colon text ≡ false) × generations.NamesGenerationsRule text rule
NamesRule text tables (Tab table) = (bs_text.has_colon text ≡ false) × bs_text.SpellsNoBsRule text × generations.SpellsNoGenerationsRule text × (first_named text tables ≡ Some table)

-- the fault of a text that names no rule: a bounded grid, else a B/S or Generations rule that wakes the empty plane, else
-- neither such a rule nor the name of a table
abbrev pub IsRuleFault : List ℕ → List TableRule → RuleFault → Type 0
IsRuleFault text tables Bounded = bs_text.IsBsRuleFault text Bounded
IsRuleFault text tables Wakes = bs_text.IsBsRuleFault text Wakes ⊎ generations.IsGenerationsRuleFault text Wakes
IsRuleFault text tables Unknown = bs_text.IsBsRuleFault text Unknown × generations.IsGenerationsRuleFault text Unknown × (first_named text tables ≡ None)

-- the one printed form: that of a B/S or Generations rule, or the table's name
abbrev pub printed_form : RuleValue → List ℕ
printed_form (Bs rule) = bs_text.printed_bs_rule rule.hood rule.birth rule.survival
printed_form (Gen rule) = generations.printed_generations_rule rule.survival rule.birth rule.states
printed_form (Tab table) = table.name
