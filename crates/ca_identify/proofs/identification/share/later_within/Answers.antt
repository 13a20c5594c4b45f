use Rattle.std.proofs.Common.{refl, arith}
use Rattle.ca_identify.proofs.Spending.{ends_after}
use Rattle.ca_identify.proofs.identification.share.later_within.Goals as goal

pub returns-in_err-later-clause-work : goal.returns-in_err-later-clause-work
returns-in_err-later-clause-work g c =
    ends_after c.from_residual.result c.in_err-later.field-0.0 c.from_residual.ensures.1 c.args.until c.later_tree_within.new.leaper.spent c.in_err-later.ensures.work

pub returns-in-None-clause-work : goal.returns-in-None-clause-work
returns-in-None-clause-work g c = λ _.
    let ends = c.in_ok-later.ensures.gives_up (rw c.in-None.is refl) in
    let all = ends.0 in
    omega (arith, all)
