use Rattle.std.proofs.Common.{arith}
use Rattle.ca_verify.proofs.decide.deaths.first_death.Goals as goal

pub returns-clause-refutation : goal.returns-clause-refutation
returns-clause-refutation g c = λ cells shows empty.
    let span = c.in_ok-m.ensures.span cells shows empty in
    let differs = c.if-m-case.false in
    let most = c.in_ok-m.ensures.most in
    (c.in_ok-m.ensures.some, omega (arith, differs, most), span.empty, λ k some less. span.live k less)
