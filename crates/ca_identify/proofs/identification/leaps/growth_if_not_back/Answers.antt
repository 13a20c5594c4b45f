use Rattle.std.specs.Prelude.{IfOk, IfSome}
use Rattle.std.proofs.Common.{arith}
use Rattle.ca_run.proofs.LeaperGrowth.{goes_on_again}
use Rattle.ca_answers.specs.declared.identity.Identity.TheVariants.{Unknown}
use Rattle.ca_answers.specs.Prelude.{IsIdentity}
use Rattle.ca_identify.specs.inner.Stages.{HasNoReturn}
use Rattle.ca_identify.proofs.LaterLeapers.{pictures_before, search_stays}
use Rattle.ca_identify.proofs.identification.leaps.growth_if_not_back.Goals as goal

pub growth_after-requires : goal.growth_after-requires
growth_after-requires g c = record { first = search_stays g.A.Automaton.next_of c.in_ok-has_no_return.ensures.goes_on c.requires.first c.args.limit (omega arith) }

pub returns-clause-growth : goal.returns-clause-growth
returns-clause-growth g c = λ cells shows without.
    pictures_before g.A.Automaton.next_of c.in_ok-has_no_return.ensures.goes_on c.requires.first
    (λ n p. HasNoReturn n p c.args.limit → IfOk c.growth_after.result (λ found. IfSome found (λ growth. IsIdentity n p c.args.limit (Unknown growth)))) c.growth_after.ensures.growth cells shows
    (c.in_ok-has_no_return.ensures.never cells shows without c.if-not-branch.false)

pub returns-clause-goes_on : goal.returns-clause-goes_on
returns-clause-goes_on g c = goes_on_again _ _ _ _ c.in_ok-has_no_return.ensures.goes_on c.growth_after.ensures.goes_on
