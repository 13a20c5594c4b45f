use Rattle.std.proofs.Common.{◌≢◌, [], subst, sym}
use Rattle.ca_answers.specs.Prelude.{contents}
use Rattle.ca_verify.proofs.JudgedInTurn.{IsAnswered, one_more, some_claims, on_error}
use Rattle.ca_verify.proofs.verifier.verify.Goals as goal

pub claims-preserved : goal.claims-preserved
claims-preserved c =
    let claims = c.args.claims.now in
    let files = contents c.args.files.now in
    subst (IsAnswered files claims.rules c.args.limits.work claims.claims c.next.new.self) (sym c.in_ok-push.ensures.items)
    (one_more files claims.rules c.args.limits.work claims.claims c.claims.judge c.next.new.self c.claims.answers.items c.in-Some.answer c.claims.invariant c.in-Some.ensures)

pub returns-in_err-push-clause-memory : goal.returns-in_err-push-clause-memory
returns-in_err-push-clause-memory c =
    let claims = c.args.claims.now in
    on_error c.from_residual-in_err-push.result (claims.claims ≢ [])
    (some_claims (contents c.args.files.now) claims.rules c.args.limits.work claims.claims c.claims.judge c.next.new.self c.claims.answers.items c.in-Some.answer c.claims.invariant c.in-Some.ensures)
