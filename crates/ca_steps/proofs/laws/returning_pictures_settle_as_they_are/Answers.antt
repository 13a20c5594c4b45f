use Rattle.ca_steps.proofs.Returning.{settles_alike}
use Rattle.ca_steps.proofs.laws.returning_pictures_settle_as_they_are.Goals as goal

pub returns : goal.returns
returns g c = settles_alike (g.A.Automaton.next_of c.args.rule.now)
