use Rattle.std.proofs.Common.{sym, subst}
use Rattle.ca_quad.specs.Prelude.{IsSoundStore}
use Rattle.ca_run.proofs.Bases.{next_inner_leap}
use Rattle.ca_run.proofs.leaper.Leaper.next_inner.Goals as goal

pub returns-clause-leap : goal.returns-clause-leap
returns-clause-leap g c =
    next_inner_leap (g.A.Automaton.next_of c.args.self.now.rule) c.args.self.now.nodes c.leaf.new.self.nodes (subst (λ l. IsSoundStore l.nodes) c.self.view_is c.self.invariant.squares) c.leaf.ensures.at_cost.goes_on.grows
    c.leaf.result c.args.nw c.args.ne c.args.sw c.args.se c.cells16.result c.next-nw.result c.next-ne.result c.next-sw.result c.next-se.result c.requires c.cells16.ensures
    (rw (sym c.self.view_is) c.next-nw.ensures) (rw (sym c.self.view_is) c.next-ne.ensures) (rw (sym c.self.view_is) c.next-sw.ensures) (rw (sym c.self.view_is) c.next-se.ensures) c.leaf.ensures.shows
