-- A pattern that was read, and its rule; and why one isn't read or ruled.
use Rattle.std.specs.Prelude.{◌≡◌, ℕ, ◌<◌, List, Option}
use Rattle.ca_pattern.specs.declared.{ruled.RuledPattern.RuledPattern, ruled.UnnamedRule.UnnamedRule, pattern.Loaded.Loaded, read.BadPattern.BadPattern, pattern_fault.PatternFault.PatternFault}
use Rattle.ca_plane.specs.Prelude.{Picture, IsWord, generation_limit}
use Rattle.ca_quad.specs.declared.node.Node.{Node}
use Rattle.ca_quad.specs.Prelude.{cell}
use Rattle.ca_rule.specs.Prelude.{TableRule, RuleValue, rule_value, NamesRule, IsRuleFault}
use Rattle.ca_macro.specs.Prelude.{AreInRange}
use Rattle.ca_pattern.specs.declared.pattern_fault.PatternFault.TheVariants.{Memory}
use Rattle.ca_pattern.specs.{Means.MayWantMemory, Formats.IsPatternFaultOn, States.HasLargeState, States.HasSmallStates, Loaded.IsLoaded}

-- the bytes are a file that reads, and this is its pattern in the store of these nodes, whose live cells are in
-- range; its generation is below the limit, and its rule text is a word
pub record IsReadFrom (nodes : List Node) (bytes : List ℕ) (pattern : Loaded) : Type 0 where
  pub cells : Picture
  pub loaded : IsLoaded nodes bytes cells pattern
  pub range : AreInRange (cell nodes pattern.tree)
  pub generation : pattern.generation < generation_limit
  pub word : IsWord pattern.rule_text.items

-- why the bytes aren't read, and on which line: their fault, or out of memory where they may need memory
abbrev pub IsUnreadFor : List ℕ → PatternFault → Option ℕ → Type 0
IsUnreadFor bytes Memory line = MayWantMemory bytes
IsUnreadFor bytes fault line = IsPatternFaultOn bytes fault line

abbrev pub IsUnread : List ℕ → BadPattern → Type 0
IsUnread bytes bad = IsUnreadFor bytes bad.fault bad.line

-- it names none, and this is the rule text and what is wrong with it
abbrev pub IsUnnamedFor : List TableRule → Loaded → UnnamedRule → Type 0
IsUnnamedFor tables pattern unnamed = (unnamed.rule_text ≡ pattern.rule_text) × IsRuleFault pattern.rule_text.items tables unnamed.fault

-- the rule of a pattern
abbrev pub rule_of : RuledPattern → RuleValue
rule_of ruled = rule_value ruled.rule

-- the pattern with a rule that its rule text names
abbrev pub IsRuledAs : List TableRule → Loaded → RuledPattern → Type 0
IsRuledAs tables pattern ruled = (ruled.pattern ≡ pattern) × NamesRule pattern.rule_text.items tables (rule_of ruled)

-- some state of the pattern's cells is too large for its rule
abbrev pub ShowsLarge : List Node → RuledPattern → Type 0
ShowsLarge nodes ruled = HasLargeState (rule_of ruled) (cell nodes ruled.pattern.tree)

-- none is
abbrev pub ShowsSmall : List Node → RuledPattern → Type 0
ShowsSmall nodes ruled = HasSmallStates (rule_of ruled) (cell nodes ruled.pattern.tree)
