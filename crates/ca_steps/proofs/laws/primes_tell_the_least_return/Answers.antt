use Rattle.ca_steps.proofs.Returns.{least_in_place, least_anywhere}
use Rattle.ca_steps.proofs.laws.primes_tell_the_least_return.Goals as goal

pub returns-clause-in_place : goal.returns-clause-in_place
returns-clause-in_place g c = least_in_place (g.A.Automaton.next_of c.args.rule.now)

pub returns-clause-anywhere : goal.returns-clause-anywhere
returns-clause-anywhere g c = least_anywhere (g.A.Automaton.next_of c.args.rule.now)
