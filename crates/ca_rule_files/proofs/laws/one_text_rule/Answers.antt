use Rattle.ca_rule_files.proofs.OneRule.{one-text-rule, rule-alone, one-text-fault}
use Rattle.ca_rule_files.proofs.laws.one_text_rule.Goals as goal

pub returns : goal.returns
returns c = record { one_rule = one-text-rule; rule_alone = rule-alone; one_fault = one-text-fault }
