use Rattle.std.proofs.Common.{◌+◌, ◌-◌, ◌≤◌, refl, sym, subst}
use Rattle.ca_verify.proofs.LeaptTrees.{forbids_stays, death_stays}
use Rattle.ca_verify.proofs.Reasons.{live_case, death_is_some, forbids_returns, difference_reason, true_at_once, by_death, by_return}
use Rattle.ca_answers.specs.Prelude.{most_runs}
use Rattle.ca_verify.specs.inner.Spending.{most_looks}
use Rattle.ca_verify.proofs.Spending.{takes_fewer, takes_then, some_runs, all_runs, death_runs}
use Rattle.ca_verify.proofs.decide.refutation_of.Goals as goal

pub returns-in-Some-clause-refutation : goal.returns-in-Some-clause-refutation
returns-in-Some-clause-refutation g c = λ cells other shown.
    difference_reason (g.A.Automaton.next_of c.args.leaper.now.rule) cells other c.args.case.now.asks
    (live_case c.args.leaper.now.nodes c.args.case.now cells other shown (c.if-is_wrongly_dead.ensures.live refl)) c.in-Some.refutation (rw c.in-Some.is at (c.in_ok-refutation.ensures.wrong cells other shown))

pub returns-in-Nothing-clause-refutation : goal.returns-in-Nothing-clause-refutation
returns-in-Nothing-clause-refutation g c = λ cells other shown.
    true_at_once (g.A.Automaton.next_of c.args.leaper.now.rule) cells other c.args.case.now.asks
    (live_case c.args.leaper.now.nodes c.args.case.now cells other shown (c.if-is_wrongly_dead.ensures.live refl)) (rw c.in_default.is at (c.in_ok-refutation.ensures.wrong cells other shown)) c.in-Nothing.is

pub first_death-requires : goal.first_death-requires
first_death-requires g c =
    let forbidden = c.in-EmptyPlane.is in
    death_stays c.args.leaper.now.nodes c.find_wrong_cell.new.leaper.nodes c.requires.sound c.in_ok-refutation.ensures.goes_on.grows c.args.case.now
    (record { subject = c.requires; forbidden = forbidden; live = c.if-is_wrongly_dead.ensures.live refl (c.requires.bounded.live (death_is_some c.args.case.now.asks.forbidden forbidden)) })

pub returns-in-EmptyPlane-clause-refutation : goal.returns-in-EmptyPlane-clause-refutation
returns-in-EmptyPlane-clause-refutation g c = λ cells other shown.
    by_death g.A.Automaton.next_of _ _ c.in_ok-refutation.ensures.goes_on.rule _ _ c.requires.sound c.in_ok-refutation.ensures.goes_on.grows c.args.case.now c.requires
    (c.if-is_wrongly_dead.ensures.live refl) cells other shown (rw c.in_default.is at (c.in_ok-refutation.ensures.wrong cells other shown)) c.first_death.result c.in-EmptyPlane.is c.first_death.ensures.refutation

pub first_return-requires : goal.first_return-requires
first_return-requires g c =
    let other = c.in_default-forbidden in
    let asks = c.args.case.now.asks in
    forbids_stays c.args.leaper.now.nodes c.find_wrong_cell.new.leaper.nodes c.requires.sound c.in_ok-refutation.ensures.goes_on.grows c.args.case.now
    (record { subject = c.requires; forbidden = forbids_returns asks.forbidden other.not-Nothing other.not-EmptyPlane; live = c.if-is_wrongly_dead.ensures.live refl (c.requires.bounded.live other.not-Nothing) })

pub returns-in_default-forbidden-clause-refutation : goal.returns-in_default-forbidden-clause-refutation
returns-in_default-forbidden-clause-refutation g c = λ cells other shown.
    by_return g.A.Automaton.next_of _ _ c.in_ok-refutation.ensures.goes_on.rule _ _ c.requires.sound c.in_ok-refutation.ensures.goes_on.grows c.args.case.now c.requires
    (c.if-is_wrongly_dead.ensures.live refl) cells other shown (rw c.in_default.is at (c.in_ok-refutation.ensures.wrong cells other shown)) c.first_return.result
    c.in_default-forbidden.not-Nothing c.in_default-forbidden.not-EmptyPlane c.first_return.ensures.refutation

pub returns-in_err-refutation-clause-takes : goal.returns-in_err-refutation-clause-takes
returns-in_err-refutation-clause-takes g c =
    let asks = c.args.case.now.asks in
    takes_fewer _ _ 1 _ c.args.case.now.subject.pattern.level asks.generations (some_runs asks.forbidden asks.generations c.requires.bounded.some) c.find_wrong_cell.ensures.takes

pub returns-in-Some-clause-takes : goal.returns-in-Some-clause-takes
returns-in-Some-clause-takes g c =
    let asks = c.args.case.now.asks in
    takes_fewer _ _ 1 _ c.args.case.now.subject.pattern.level asks.generations (some_runs asks.forbidden asks.generations c.requires.bounded.some) c.find_wrong_cell.ensures.takes

pub returns-in-EmptyPlane-clause-takes : goal.returns-in-EmptyPlane-clause-takes
returns-in-EmptyPlane-clause-takes g c =
    let asks = c.args.case.now.asks in
    let forbidden = c.in-EmptyPlane.is in
    takes_then _ _ _ _ c.args.case.now.subject.pattern.level asks.generations 1 (most_looks asks.generations)
    (subst (λ b. 1 + most_looks asks.generations ≤ most_runs b asks.generations) (sym forbidden) (death_runs asks.generations (c.requires.bounded.some (death_is_some asks.forbidden forbidden))))
    c.find_wrong_cell.ensures.takes c.first_death.ensures.takes

pub returns-in_default-forbidden-clause-takes : goal.returns-in_default-forbidden-clause-takes
returns-in_default-forbidden-clause-takes g c =
    let asks = c.args.case.now.asks in
    takes_then _ _ _ _ c.args.case.now.subject.pattern.level asks.generations 1 (asks.generations - 1) (all_runs asks.forbidden asks.generations c.in_default-forbidden.not-Nothing c.in_default-forbidden.not-EmptyPlane c.requires.bounded.some)
    c.find_wrong_cell.ensures.takes c.first_return.ensures.takes
