use Rattle.std.proofs.Common.{subst}
use Rattle.ca_pattern.proofs.LeaptTrees.{pattern_stays}
use Rattle.ca_census.specs.Settlings.{IsSettled}
use Rattle.ca_census.proofs.SettledSearches.{pictures_before}
use Rattle.ca_census.proofs.search.try_doubling.Goals as goal

pub try_after-requires-clause-pattern : goal.try_after-requires-clause-pattern
try_after-requires-clause-pattern g c =
    pattern_stays c.args.leaper.now.nodes c.generations.leaper.nodes c.store.ensures.sound c.generations.invariant.goes_on.grows c.args.pattern.now c.requires.pattern

pub returns-in-Some-clause-settled : goal.returns-in-Some-clause-settled
returns-in-Some-clause-settled g c =
    let next = g.A.Automaton.next_of c.args.rule.now in
    pictures_before c.store.ensures.sound c.generations.invariant.goes_on.grows c.requires.pattern (λ cells. IsSettled next cells c.args.search.now.reach c.in-Some.settling)
    (λ cells shows. subst (λ reach. IsSettled next cells reach c.in-Some.settling) c.generations.invariant.reach ((rw c.in-Some.is at c.in_ok-found.ensures.settled) cells shows))
