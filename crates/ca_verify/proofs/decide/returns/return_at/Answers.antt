use Rattle.std.proofs.Common.{refl}
use Rattle.std.specs.Prelude.{pos, Some, None}
use Rattle.ca_run.proofs.LeaperGrowth.{goes_on_again}
use Rattle.ca_verify.proofs.LeaptTrees.{forbids_stays}
use Rattle.ca_pattern.proofs.LeaptTrees.{shows_stays, pattern_stays, ok_as}
use Rattle.ca_verify.proofs.DividedReturns.{back_here, back_there}
use Rattle.ca_evolution.proofs.Spending.{takes_before}
use Rattle.ca_verify.proofs.decide.returns.return_at.Goals as goal

pub tree_after-requires : goal.tree_after-requires
tree_after-requires g c = record { pattern = c.requires.case.subject.pattern; few = c.requires.few }

pub return_anywhere-requires-clause-pattern : goal.return_anywhere-requires-clause-pattern
return_anywhere-requires-clause-pattern g c =
    pattern_stays c.args.leaper.now.nodes c.tree_after.new.leaper.nodes c.requires.case.subject.sound c.in_ok-end.ensures.goes_on.grows c.args.case.now.subject.pattern c.requires.case.subject.pattern

pub return_anywhere-requires-clause-live : goal.return_anywhere-requires-clause-live
return_anywhere-requires-clause-live g c = (forbids_stays c.args.leaper.now.nodes c.tree_after.new.leaper.nodes c.requires.case.subject.sound c.in_ok-end.ensures.goes_on.grows c.args.case.now c.requires.case).live

pub returns-in-Anywhere-clause-back : goal.returns-in-Anywhere-clause-back
returns-in-Anywhere-clause-back g c = λ cells shows.
    ok_as c.return_anywhere.result _ _
    (λ back told.
    back_there (g.A.Automaton.next_of c.args.leaper.now.rule) _ _ c.args.case.now c.requires.case c.in_ok-end.end c.args.m c.in_ok-end.ensures.end cells shows
    (shows_stays _ _ c.requires.case.subject.sound c.in_ok-end.ensures.goes_on.grows _ cells c.requires.case.subject.pattern.is_tree shows) back c.in-Anywhere.is told)
    c.return_anywhere.ensures.back

pub returns-in-Anywhere-clause-goes_on : goal.returns-in-Anywhere-clause-goes_on
returns-in-Anywhere-clause-goes_on g c = goes_on_again _ c.args.leaper.now c.tree_after.new.leaper c.return_anywhere.new.leaper c.in_ok-end.ensures.goes_on c.return_anywhere.ensures.goes_on

pub returns-in-None-clause-back : goal.returns-in-None-clause-back
returns-in-None-clause-back g c = λ cells shows.
    back_here (g.A.Automaton.next_of c.args.leaper.now.rule) _ _ c.args.case.now c.requires.case c.in_ok-end.end c.args.m c.in_ok-end.ensures.end cells shows
    (shows_stays _ _ c.requires.case.subject.sound c.in_ok-end.ensures.goes_on.grows _ cells c.requires.case.subject.pattern.is_tree shows) (Some (pos 0, pos 0)) c.in_default.not-Anywhere
    (refl, refl, c.in_ok-difference-in_default.ensures.none.0 (rw c.in-None.is refl))

pub returns-in-None-clause-goes_on : goal.returns-in-None-clause-goes_on
returns-in-None-clause-goes_on g c = goes_on_again _ c.args.leaper.now c.tree_after.new.leaper c.difference.new.self c.in_ok-end.ensures.goes_on c.in_ok-difference-in_default.ensures.goes_on

pub returns-in-None-clause-takes : goal.returns-in-None-clause-takes
returns-in-None-clause-takes g c = takes_before _ _ _ 1 c.args.case.now.subject.pattern.level c.args.m c.in_ok-difference-in_default.ensures.spent c.in_ok-end.ensures.takes

pub returns-in-Some-clause-back : goal.returns-in-Some-clause-back
returns-in-Some-clause-back g c = λ cells shows.
    let at = c.in-Some.field-0 in
    back_here (g.A.Automaton.next_of c.args.leaper.now.rule) _ _ c.args.case.now c.requires.case c.in_ok-end.end c.args.m c.in_ok-end.ensures.end cells shows
    (shows_stays _ _ c.requires.case.subject.sound c.in_ok-end.ensures.goes_on.grows _ cells c.requires.case.subject.pattern.is_tree shows) None c.in_default.not-Anywhere
    (at.x, at.y, rw c.in-Some.is at c.in_ok-difference-in_default.ensures.some)

pub returns-in-Some-clause-goes_on : goal.returns-in-Some-clause-goes_on
returns-in-Some-clause-goes_on g c = goes_on_again _ c.args.leaper.now c.tree_after.new.leaper c.difference.new.self c.in_ok-end.ensures.goes_on c.in_ok-difference-in_default.ensures.goes_on

pub returns-in-Some-clause-takes : goal.returns-in-Some-clause-takes
returns-in-Some-clause-takes g c = takes_before _ _ _ 1 c.args.case.now.subject.pattern.level c.args.m c.in_ok-difference-in_default.ensures.spent c.in_ok-end.ensures.takes
