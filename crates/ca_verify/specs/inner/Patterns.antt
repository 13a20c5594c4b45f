-- Both patterns of a claim, which of them is bad, and whether they agree.
use Rattle.std.specs.Prelude.{◌≡◌, List}
use Rattle.ca_pattern.specs.declared.{ruled.RuledPattern.RuledPattern, pattern.Loaded.Loaded}
use Rattle.ca_quad.specs.declared.node.Node.{Node}
use Rattle.ca_rule.specs.Prelude.{TableRule, RuleValue, IsSameRule, NamesRule}
use Rattle.ca_text.specs.declared.both.Both.{Both}
use Rattle.ca_text.specs.Prelude.{HoldsOfBoth}
use Rattle.ca_verify.specs.declared.{decide.ClaimTrees.ClaimTrees, refusal.WhichPattern.WhichPattern, verifier.agreement.Disagreement.Disagreement}
use Rattle.ca_verify.specs.declared.refusal.WhichPattern.TheVariants.{First, Second}
use Rattle.ca_verify.specs.declared.verifier.agreement.Disagreement.TheVariants.{Large, Mixed}
use Rattle.ca_verify.specs.declared.verifier.agreement.Disagreement.TheVariants as disagreement
use Rattle.ca_pattern.specs.Prelude.{rule_of, ShowsLarge, ShowsSmall}

-- this one of both
abbrev pub part_of : {X : Type 0} → WhichPattern → Both X → X
part_of First both = both.first
part_of Second both = both.second

-- this one of both is bad, and one before it is good
abbrev pub FirstBadAt : {X : Type 0} → WhichPattern → Both X → (Good Bad : X → Type 0) → Type 0
FirstBadAt First both Good Bad = Bad both.first
FirstBadAt Second both Good Bad = Good both.first × Bad both.second

-- the pattern's rule text names a rule among the tables
abbrev pub HasName : List TableRule → Loaded → Type 0
HasName tables pattern = (rule : RuleValue) × NamesRule pattern.rule_text.items tables rule

-- the rule is that of the first pattern, and the second's is the same
abbrev pub AreOfOneRule : Both RuledPattern → RuleValue → Type 0
AreOfOneRule patterns rule = (rule ≡ rule_of patterns.first) × IsSameRule (rule_of patterns.first) (rule_of patterns.second)

-- the second pattern hasn't the same rule as the first
abbrev pub AreMixed : Both RuledPattern → Type 0
AreMixed patterns = IsSameRule (rule_of patterns.first) (rule_of patterns.second) → ⊥

-- why patterns have no one rule under which their states are small
abbrev pub Disagree : List Node → Both RuledPattern → Disagreement → Type 0
Disagree nodes patterns (Large part) = FirstBadAt part patterns (ShowsSmall nodes) (ShowsLarge nodes)
Disagree nodes patterns Mixed = HoldsOfBoth (ShowsSmall nodes) patterns × AreMixed patterns
Disagree nodes patterns disagreement.Memory = Unit {0}

-- the trees of both patterns
abbrev pub trees_of : Both RuledPattern → ClaimTrees
trees_of patterns = record { pattern = patterns.first.pattern.tree; other = patterns.second.pattern.tree }
