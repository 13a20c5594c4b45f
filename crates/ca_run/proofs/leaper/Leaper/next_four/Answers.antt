use Rattle.ca_run.proofs.Bases.{centre_of_leap}
use Rattle.ca_run.proofs.leaper.Leaper.next_four.Goals as goal

pub returns-clause-centre : goal.returns-clause-centre
returns-clause-centre g c =
    centre_of_leap (g.A.Automaton.next_of c.args.self.now.rule) c.args.self.now.nodes c.next_inner.new.self.nodes c.quarters-nw.ensures.sound c.next_inner.ensures.at_cost.goes_on.grows
    c.next_inner.result c.args.id c.quarters-nw.result.0 c.quarters-nw.result.1 c.quarters-nw.result.2 c.quarters-nw.result.3 c.requires c.quarters-nw.ensures.shows c.next_inner.ensures.leap
