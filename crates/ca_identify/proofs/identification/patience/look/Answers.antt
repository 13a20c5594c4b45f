use Rattle.std.proofs.Common.{arith}
use Rattle.ca_identify.proofs.identification.patience.look.Goals as goal

pub returns-clause-look : goal.returns-clause-look
returns-clause-look g c = λ cells shows.
    let rises = c.in_ok-found.ensures.goes_on.spends.rises in
    c.in_ok-found.ensures.look cells _ shows (omega (arith, rises, c.used-begun.ensures.value, c.used-used.ensures.value))

pub returns-clause-counted : goal.returns-clause-counted
returns-clause-counted g c =
    let rises = c.in_ok-found.ensures.goes_on.spends.rises in
    omega (arith, rises, c.used-begun.ensures.value, c.used-used.ensures.value)
