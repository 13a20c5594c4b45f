use Rattle.std.proofs.Common.{sym, subst, arith}
use Rattle.ca_run.specs.Prelude.{IsLeap}
use Rattle.ca_run.proofs.LeapResults.{full_leaps_of, singles_of, centres_of, leaps_of, leaper_with}
use Rattle.ca_run.proofs.ShownPlanes.{leaps_more}
use Rattle.ca_run.proofs.leaper.Leaper.remember_leap.Goals as goal

pub invariant_of-self : goal.invariant_of-self
invariant_of-self g c =
    let next = g.A.Automaton.next_of c.self.inside.rule in
    let s = c.self.inside in
    let all = c.self.invariant.remembers.true_results in
    let bounded = c.self.invariant.bounded in
    let leap = subst (λ l. IsLeap (g.A.Automaton.next_of l.rule) l.nodes c.requires.0 c.args.nw c.args.ne c.args.sw c.args.se c.args.result_id) (sym c.self.view_is) c.requires.1 in
    leaper_with c.self.invariant s.memo s.recent_centres c.put.new.self (full_leaps_of next s.store s.memo s.recent_centres s.recent_leaps all) (singles_of next s.store s.memo s.recent_centres s.recent_leaps all)
    (centres_of next s.store s.memo s.recent_centres s.recent_leaps all)
    (leaps_more next s.store s.recent_leaps.slots c.put.new.self.slots c.requires.0 c.args.nw c.args.ne c.args.sw c.args.se c.args.result_id (leaps_of next s.store s.memo s.recent_centres s.recent_leaps all) leap c.put.ensures.results)
    (record { within = omega (arith, c.put.ensures.most, bounded.within); entries = bounded.entries; few_centres = bounded.few_centres; few_leaps = c.put.ensures.bounded })
