-- What the laws of the formats speak of.
use Rattle.std.specs.Prelude.{Option, None, Some}
use Rattle.ca_rule.specs.declared.bs_rule.BsRule.{BsRule}
use Rattle.ca_rule.specs.Prelude.{Bs, IsSameRule}

-- both name no rule, or the same one
abbrev pub NameSameRule : Option BsRule → Option BsRule → Type 0
NameSameRule None None = Unit {0}
NameSameRule None (Some other) = ⊥
NameSameRule (Some rule) None = ⊥
NameSameRule (Some rule) (Some other) = IsSameRule (Bs rule) (Bs other)
