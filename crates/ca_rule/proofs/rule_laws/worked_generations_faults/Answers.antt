use Rattle.std.proofs.Common.{codes, refl}
use Rattle.ca_rule.proofs.GenerationsRead.{read-spelled, all_unknown}
use Rattle.ca_rule.proofs.rule_laws.worked_generations_faults.Goals as goal

pub returns-clause-wakes : goal.returns-clause-wakes
returns-clause-wakes c = (refl, (codes "0", codes "2", 3, read-spelled (codes "2/0/3") (codes "2", codes "0", 3) refl, refl))

pub returns-clause-unknown : goal.returns-clause-unknown
returns-clause-unknown c = search (all_unknown)
