use Rattle.std.proofs.Common.{arith}
use Rattle.ca_identify.proofs.Spending.{ends_at_limit}
use Rattle.ca_identify.proofs.identification.patience.patient_search.Goals as goal

pub returns-in-Ok-clause-identity : goal.returns-in-Ok-clause-identity
returns-in-Ok-clause-identity g c = λ cells shows. rw c.in-Ok.is at (c.search-found.ensures.identity cells shows)

-- it may use up all
pub returns-in_err-identity-clause-work : goal.returns-in_err-identity-clause-work
returns-in_err-identity-clause-work g c =
    let fits = c.used-used.ensures.most in
    ends_at_limit c.from_residual.result c.in_err-identity.field-0.0 c.from_residual.ensures.1 c.work_limit-most.result c.args.leaper.now.spent c.search.new.leaper.spent c.work_limit-most.ensures
    (omega (arith, c.used-used.ensures.value, fits)) c.in_err-identity.ensures.goes_on.spends c.in_err-identity.ensures.bounded c.in_err-identity.ensures.work
