use Rattle.std.proofs.Common.{suc, sym, subst, IfSome}
use Rattle.ca_quad.specs.Prelude.{AreFour}
use Rattle.ca_run.specs.Prelude.{IsLeap}
use Rattle.ca_run.proofs.LeapResults.{leaps_of}
use Rattle.ca_run.proofs.ShownPlanes.{leap_recalled}
use Rattle.ca_run.proofs.leaper.Leaper.recall_leap.Goals as goal

pub returns : goal.returns
returns g c = λ k four.
    subst (λ l. IfSome c.get.result (IsLeap (g.A.Automaton.next_of l.rule) l.nodes k c.args.nw c.args.ne c.args.sw c.args.se)) c.self.view_is
    (leap_recalled (g.A.Automaton.next_of c.self.inside.rule) c.self.inside.store c.self.inside.recent_leaps.slots k c.args.nw c.args.ne c.args.sw c.args.se c.get.result (leaps_of (g.A.Automaton.next_of c.self.inside.rule) c.self.inside.store c.self.inside.memo c.self.inside.recent_centres c.self.inside.recent_leaps c.self.invariant.remembers.true_results)
    (subst (λ l. AreFour l.nodes (suc k) c.args.nw c.args.ne c.args.sw c.args.se) (sym c.self.view_is) four) c.get.ensures)
