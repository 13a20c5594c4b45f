use Rattle.ca_rule.proofs.GenerationsAlike.{as-bs}
use Rattle.ca_rule.proofs.rule_laws.two_states_do_as_bs.Goals as goal

pub returns : goal.returns
returns c = as-bs
