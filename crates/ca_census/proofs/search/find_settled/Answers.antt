use Rattle.std.proofs.Common.{subst, ◌∙◌}
use Rattle.std.specs.Prelude.{IfOk, IfSome}
use Rattle.ca_pattern.proofs.LeaptTrees.{pattern_stays}
use Rattle.ca_census.specs.Settlings.{IsSettled}
use Rattle.ca_census.proofs.SettledSearches.{pictures_before}
use Rattle.ca_census.proofs.search.find_settled.Goals as goal

pub returns-in-Some-clause-settled : goal.returns-in-Some-clause-settled
returns-in-Some-clause-settled g c = rw c.in-Some.is at c.in_ok-found.ensures.settled

pub try_ends-requires-clause-pattern : goal.try_ends-requires-clause-pattern
try_ends-requires-clause-pattern g c =
    pattern_stays c.args.leaper.now.nodes c.try_doubling.new.leaper.nodes c.store.ensures.sound c.in_ok-found.ensures.goes_on.grows c.args.pattern.now c.requires.pattern

pub returns-clause-settled : goal.returns-clause-settled
returns-clause-settled g c =
    let next = g.A.Automaton.next_of c.args.rule.now in
    let reach = c.half.ensures.reach ∙ c.in_ok-found.ensures.reach in
    pictures_before c.store.ensures.sound c.in_ok-found.ensures.goes_on.grows c.requires.pattern
    (λ cells. IfOk c.try_ends.result (λ found. IfSome found (IsSettled next cells c.args.reach)))
    (λ cells shows. subst (λ r. IfOk c.try_ends.result (λ found. IfSome found (IsSettled next cells r))) reach (c.try_ends.ensures.settled cells shows))
