use Rattle.std.specs.Prelude.{IfOk, IfSome}
use Rattle.ca_pattern.proofs.LeaptTrees.{pattern_stays}
use Rattle.ca_census.specs.Settlings.{IsSettled, IsSettling}
use Rattle.ca_census.proofs.SettledSearches.{some_picture, pictures_before, pictures_then}
use Rattle.ca_census.proofs.settling.settle.Goals as goal

pub first_settling-requires-clause-pattern : goal.first_settling-requires-clause-pattern
first_settling-requires-clause-pattern g c =
    pattern_stays c.args.leaper.now.nodes c.find_settled.new.leaper.nodes c.store.ensures.sound c.in_ok-settled.ensures.goes_on.grows c.args.pattern c.requires.pattern

pub first_settling-requires-clause-within : goal.first_settling-requires-clause-within
first_settling-requires-clause-within g c =
    let shown = some_picture c.args.leaper.now.nodes c.args.pattern in
    let told = rw c.in-Some.is at c.in_ok-settled.ensures.settled in
    (told shown.0 shown.1).within

pub first_settling-requires-clause-settled : goal.first_settling-requires-clause-settled
first_settling-requires-clause-settled g c =
    pictures_then c.store.ensures.sound c.in_ok-settled.ensures.goes_on.grows c.requires.pattern
    (λ cells. IsSettled (g.A.Automaton.next_of c.args.rule.now) cells c.args.reach c.in-Some.settled) (rw c.in-Some.is at c.in_ok-settled.ensures.settled)

pub returns-in-Some-clause-settling : goal.returns-in-Some-clause-settling
returns-in-Some-clause-settling g c =
    pictures_before c.store.ensures.sound c.in_ok-settled.ensures.goes_on.grows c.requires.pattern
    (λ cells. IfOk c.first_settling.result (λ found. IfSome found (IsSettling (g.A.Automaton.next_of c.args.rule.now) cells c.args.reach))) c.first_settling.ensures.settling
