use Rattle.std.proofs.Common.{arith, sym, subst}
use Rattle.std.proofs.lemmas.Bool.Decides.{nat_tests}
use Rattle.ca_run.specs.Prelude.{IsCentre}
use Rattle.ca_run.proofs.LeapResults.{full_leaps_of, singles_of, centres_of, leaps_of, leaper_with}
use Rattle.ca_run.proofs.ShownPlanes.{kept_more, full_leaps_more, singles_more}
use Rattle.ca_run.proofs.leaper.Leaper.remember.Goals as goal

pub invariant_of-self : goal.invariant_of-self
invariant_of-self g c =
    let next = g.A.Automaton.next_of c.self.inside.rule in
    let s = c.self.inside in
    let all = c.self.invariant.remembers.true_results in
    let bounded = c.self.invariant.bounded in
    let put = c.put_full_leap in
    let centre = subst (λ l. IsCentre (g.A.Automaton.next_of l.rule) l.nodes c.args.id c.args.part_level c.args.j c.args.result_id) (sym c.self.view_is) c.requires in
    let full = full_leaps_more next s.store s.memo put.new.self c.args.id c.args.part_level c.args.j c.args.result_id (grind (arith, nat_tests)) (full_leaps_of next s.store s.memo s.recent_centres s.recent_leaps all) centre put.ensures.full_leaps in
    leaper_with c.self.invariant put.new.self s.recent_centres s.recent_leaps full (λ id j result_id e. singles_of next s.store s.memo s.recent_centres s.recent_leaps all id j result_id (put.ensures.singles id j result_id e))
    (centres_of next s.store s.memo s.recent_centres s.recent_leaps all) (leaps_of next s.store s.memo s.recent_centres s.recent_leaps all)
    (record { within = omega (arith, put.ensures.capacity, bounded.within); entries = put.ensures.bounded; few_centres = bounded.few_centres; few_leaps = bounded.few_leaps })

pub invariant_of-self-then-is_cheap : goal.invariant_of-self-then-is_cheap
invariant_of-self-then-is_cheap g c =
    let next = g.A.Automaton.next_of c.self.inside.rule in
    let s = c.self.inside in
    let all = c.self.invariant.remembers.true_results in
    let bounded = c.self.invariant.bounded in
    let put = c.put in
    let centre = subst (λ l. IsCentre (g.A.Automaton.next_of l.rule) l.nodes c.args.id c.args.part_level c.args.j c.args.result_id) (sym c.self.view_is) c.requires in
    let more = kept_more next s.store s.recent_centres.slots put.new.self.slots c.args.id c.args.part_level c.args.j c.args.result_id (centres_of next s.store s.memo s.recent_centres s.recent_leaps all) centre put.ensures.results in
    leaper_with c.self.invariant s.memo put.new.self s.recent_leaps (full_leaps_of next s.store s.memo s.recent_centres s.recent_leaps all) (singles_of next s.store s.memo s.recent_centres s.recent_leaps all)
    more (leaps_of next s.store s.memo s.recent_centres s.recent_leaps all)
    (record { within = omega (arith, put.ensures.most, bounded.within); entries = bounded.entries; few_centres = put.ensures.bounded; few_leaps = bounded.few_leaps })

pub invariant_of-self-2 : goal.invariant_of-self-2
invariant_of-self-2 g c =
    let next = g.A.Automaton.next_of c.self.inside.rule in
    let s = c.self.inside in
    let all = c.self.invariant.remembers.true_results in
    let bounded = c.self.invariant.bounded in
    let put = c.put_single in
    let centre = subst (λ l. IsCentre (g.A.Automaton.next_of l.rule) l.nodes c.args.id c.args.part_level c.args.j c.args.result_id) (sym c.self.view_is) c.requires in
    let singles = singles_more next s.store s.memo put.new.self c.args.id c.args.part_level c.args.j c.args.result_id (singles_of next s.store s.memo s.recent_centres s.recent_leaps all) centre put.ensures.singles in
    leaper_with c.self.invariant put.new.self s.recent_centres s.recent_leaps (λ id result_id e. full_leaps_of next s.store s.memo s.recent_centres s.recent_leaps all id result_id (put.ensures.full_leaps id result_id e)) singles
    (centres_of next s.store s.memo s.recent_centres s.recent_leaps all) (leaps_of next s.store s.memo s.recent_centres s.recent_leaps all)
    (record { within = omega (arith, put.ensures.capacity, bounded.within); entries = put.ensures.bounded; few_centres = bounded.few_centres; few_leaps = bounded.few_leaps })
