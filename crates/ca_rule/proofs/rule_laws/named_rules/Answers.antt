use Rattle.ca_rule.proofs.Rules.{named-once, named-faultless, one-rule-fault, printed_bs_rule-names, same-named}
use Rattle.ca_rule.proofs.rule_laws.named_rules.Goals as goal

pub returns : goal.returns
returns c = record {
  one_rule = named-once;
  rule_alone = named-faultless;
  one_fault = one-rule-fault;
  printed = printed_bs_rule-names;
  same_are_equal = same-named;
}
