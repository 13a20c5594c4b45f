use Rattle.std.specs.Prelude.{IfOk, IfSome}
use Rattle.ca_pattern.proofs.LeaptTrees.{pattern_stays}
use Rattle.ca_census.specs.Settlings.{IsSettled}
use Rattle.ca_census.proofs.SettledSearches.{pictures_before}
use Rattle.ca_census.proofs.search.try_ends.Goals as goal

pub returns-in-Some-clause-settled : goal.returns-in-Some-clause-settled
returns-in-Some-clause-settled g c = rw c.in-Some.is at c.in_ok-found.ensures.settled

pub try_after-requires-2-clause-pattern : goal.try_after-requires-2-clause-pattern
try_after-requires-2-clause-pattern g c =
    pattern_stays c.args.leaper.now.nodes c.try_after.new.leaper.nodes c.store.ensures.sound c.in_ok-found.ensures.goes_on.grows c.args.pattern.now c.requires.pattern

pub returns-clause-settled : goal.returns-clause-settled
returns-clause-settled g c =
    pictures_before c.store.ensures.sound c.in_ok-found.ensures.goes_on.grows c.requires.pattern
    (λ cells. IfOk c.try_after-2.result (λ found. IfSome found (IsSettled (g.A.Automaton.next_of c.args.rule.now) cells c.args.search.reach))) c.try_after-2.ensures.settled
