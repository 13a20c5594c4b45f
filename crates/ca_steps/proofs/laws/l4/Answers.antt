use Rattle.ca_steps.proofs.Spreading.{spread, none_after}
use Rattle.ca_steps.proofs.laws.l4.Goals as goal

pub returns-clause-outside : goal.returns-clause-outside
returns-clause-outside g c = λ cells box n x y all.
    spread (g.A.Automaton.next_of c.args.rule.now) cells box (g.met.A.Automaton.quiet c.args.rule.now c.states-states.ensures.sound) all n x y

pub returns-clause-empty : goal.returns-clause-empty
returns-clause-empty g c = λ cells n x y dead.
    none_after (g.A.Automaton.next_of c.args.rule.now) cells (g.met.A.Automaton.quiet c.args.rule.now c.states-states.ensures.sound) dead n x y
