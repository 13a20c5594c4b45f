use Rattle.ca_steps.proofs.Returns.{after_moved}
use Rattle.ca_steps.proofs.laws.l2.Goals as goal

pub returns : goal.returns
returns g c = record { moved = after_moved (g.A.Automaton.next_of c.args.rule.now) }
