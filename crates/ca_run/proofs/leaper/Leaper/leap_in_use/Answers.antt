use Rattle.std.proofs.Common.{subst}
use Rattle.ca_run.specs.inner.InUse.{IsTrueLeap}
use Rattle.ca_run.proofs.LeapResults.{full_leaps_of}
use Rattle.ca_run.proofs.leaper.Leaper.leap_in_use.Goals as goal

pub returns : goal.returns
returns g c =
    let square = c.in_ok-square.square in
    let centre = c.in_ok-centre.centre in
    subst (λ l. IsTrueLeap (g.A.Automaton.next_of l.rule) l.nodes (record { square = square; centre = centre })) c.self.view_is
    (full_leaps_of (g.A.Automaton.next_of c.self.inside.rule) c.self.inside.store c.self.inside.memo c.self.inside.recent_centres c.self.inside.recent_leaps c.self.invariant.remembers.true_results square centre c.in_ok-centre.ensures)
