use Rattle.std.proofs.Common.{◌≡◌, ◌≢◌, ◌+◌, [], length, arith, ap, subst}
use Rattle.ca_answers.specs.Prelude.{contents, JudgesAndNotes}
use Rattle.ca_verify.specs.inner.Kept.{left_from}
use Rattle.ca_verify.proofs.JudgedInTurn.{judged_and_noted}
use Rattle.ca_verify.proofs.judge.Judge.next_noted_watched.Goals as goal

pub returns : goal.returns
returns g c =
    let files = contents c.self.inside.files.now in
    let asked = c.self.inside.claims.now in
    let index = c.self.inside.index in
    let work = c.self.inside.limits.work in
    let count : c.claim_count.result ≡ length asked.claims = c.claim_count.ensures.claims in
    let some : asked.claims ≢ [] = λ none. (let empty : length asked.claims ≡ 0 = ap length none in omega (arith, empty, count, c.self.invariant.within, c.if-self-claim_count.false)) in
    let kept = c.self.invariant.kept some in
    let noted = c.answer_to-noted.result in
    let answered = c.answer_to-noted.ensures files kept.found_at kept.read in
    record {
      noted = subst (λ old. JudgesAndNotes old (left_from files asked (index + 1) work) noted.0 noted.1) c.self.view_is (judged_and_noted files asked index work noted.0 noted.1 answered);
      given = answered.given;
    }
