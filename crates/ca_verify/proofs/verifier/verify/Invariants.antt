use Rattle.std.proofs.Common.{length}
use Rattle.ca_answers.specs.Prelude.{contents}
use Rattle.ca_verify.proofs.JudgedInTurn.{IsAnswered}
use Rattle.ca_verify.proofs.verifier.verify.Given as goal

-- the claims that are judged have true answers, and the others are left
abbrev pub invariant-claims : goal.invariant-claims
invariant-claims l = IsAnswered (contents l.fn.files) l.fn.claims.rules l.fn.limits.work l.fn.claims.claims l.judge l.answers.items

abbrev pub decreases-claims : goal.decreases-claims
decreases-claims l = length l.judge.claims
