use Rattle.ca_rule.proofs.UntiedTransitions.{one-state}
use Rattle.ca_rule.proofs.table.laws.untied_tables.Goals as goal

pub returns : goal.returns
returns c = one-state
