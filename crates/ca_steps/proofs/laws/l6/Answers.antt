use Rattle.ca_steps.proofs.Returns.{multiples_in_place, multiples_anywhere, back_times, vector_times}
use Rattle.ca_steps.proofs.laws.l6.Goals as goal

pub returns-clause-in_place : goal.returns-clause-in_place
returns-clause-in_place g c = multiples_in_place (g.A.Automaton.next_of c.args.rule.now)

pub returns-clause-anywhere : goal.returns-clause-anywhere
returns-clause-anywhere g c = multiples_anywhere (g.A.Automaton.next_of c.args.rule.now)

pub returns-clause-again : goal.returns-clause-again
returns-clause-again g c = back_times (g.A.Automaton.next_of c.args.rule.now)

pub returns-clause-vector : goal.returns-clause-vector
returns-clause-vector g c = vector_times (g.A.Automaton.next_of c.args.rule.now)
