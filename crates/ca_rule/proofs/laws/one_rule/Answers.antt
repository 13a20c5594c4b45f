use Rattle.ca_rule.proofs.Meaning.{names-once}
use Rattle.ca_rule.proofs.laws.one_rule.Goals as goal

pub returns : goal.returns
returns c = names-once
