use Rattle.ca_rule.proofs.Meaning.{names-faultless}
use Rattle.ca_rule.proofs.laws.rule_or_fault.Goals as goal

pub returns-clause-rule_alone : goal.returns-clause-rule_alone
returns-clause-rule_alone c = names-faultless
