use Rattle.ca_steps.proofs.Returning.{never_wide}
use Rattle.ca_steps.proofs.laws.returning_pictures_stay_small.Goals as goal

pub returns : goal.returns
returns g c = never_wide (g.A.Automaton.next_of c.args.rule.now) (g.met.A.Automaton.quiet c.args.rule.now c.states-states.ensures.sound)
