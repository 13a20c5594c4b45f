use Rattle.ca_rule.proofs.GenerationsRead.{names-once}
use Rattle.ca_rule.proofs.rule_laws.one_generations_rule.Goals as goal

pub returns : goal.returns
returns c = names-once
