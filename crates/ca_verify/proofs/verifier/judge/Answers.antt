use Rattle.std.proofs.Common.{◌≡◌, ◌<◌, length, map, sym, subst}
use Rattle.std.specs.Option.{option_copied}
use Rattle.ca_rule.specs.Prelude.{rule_value, next_of}
use Rattle.ca_text.specs.Prelude.{HoldsOfBoth, map_patterns, path_at}
use Rattle.ca_answers.specs.Prelude.{bytes_at, IsNoMoreThan, HasCause}
use Rattle.ca_verify.specs.declared.refusal.About.TheVariants.{Claim}
use Rattle.ca_answers.specs.declared.verdict.Verdict.TheVariants.{Refused}
use Rattle.ca_answers.specs.declared.cause.Cause.TheVariants.{Work}
use Rattle.ca_verify.specs.inner.Refusals.{IsRefusal, IsJudgedOn}
use Rattle.ca_verify.specs.inner.Decided.{IsDecided}
use Rattle.ca_verify.specs.inner.PreparedClaim.{IsPrepared}
use Rattle.ca_verify.proofs.Causes.{passed_on, is_subject, true_verdict}
use Rattle.ca_verify.proofs.verifier.judge.Goals as goal

pub prepare-requires-clause-within : goal.prepare-requires-clause-within
prepare-requires-clause-within g c = subst (λ l. HoldsOfBoth (λ i. i < length l) c.args.task.now.claim.now.patterns) (sym c.deref.ensures.value) c.requires.within

pub returns-in_err-prepared : goal.returns-in_err-prepared
returns-in_err-prepared g c = λ files paths rules on.
    let claim = map_patterns (path_at paths) c.args.task.now.claim.now in
    let refusal = c.in_err-prepared.field-0.0 in
    let refused : IsRefusal files paths rules c.asks-asks.result claim.patterns refusal =
    c.in_err-prepared.ensures.prepared files paths rules (subst (λ l. map option_copied l ≡ map (bytes_at files) paths) (sym c.deref.ensures.value) on.found) on.read in
    passed_on (λ verdict. IsJudgedOn files paths rules c.args.task.now.limits.work claim verdict Claim) (λ r. IsJudgedOn files paths rules c.args.task.now.limits.work claim (Refused r.cause) r.about) c.from_residual.result refusal c.from_residual.ensures.1
    (record {
      holds = subst (λ asks. HasCause files rules asks claim.patterns refusal.cause) c.asks-asks.ensures refused.holds;
      within = λ out. let is : refusal.cause ≡ Work = cc in absurd (refused.idle is);
      on = refused.on;
    })

pub decide_on-requires-clause-subject : goal.decide_on-requires-clause-subject
decide_on-requires-clause-subject g c =
    is_subject c.args.task.now.limits c.args.task.now.claim.now.kind c.asks-asks.result c.in_ok-prepared.prepared c.asks-asks.ensures c.requires.numbers c.in_ok-prepared.ensures.fit

pub returns : goal.returns
returns g c = λ files paths rules on.
    let claim = map_patterns (path_at paths) c.args.task.now.claim.now in
    let prepared = c.in_ok-prepared.prepared in
    let found = subst (λ l. map option_copied l ≡ map (bytes_at files) paths) (sym c.deref.ensures.value) on.found in
    let is = subst (λ asks. IsPrepared files rules asks claim.patterns prepared) c.asks-asks.ensures (c.in_ok-prepared.ensures.prepared files paths rules found on.read) in
    let fit = c.in_ok-prepared.ensures.fit in
    true_verdict files rules paths c.args.task.now.limits claim prepared c.decide_on.result is fit
    (λ out. subst (λ asks. IsNoMoreThan c.args.task.now.limits.work asks prepared.subject.pattern.level) c.asks-asks.ensures
    (subst (λ work. IsNoMoreThan work c.asks-asks.result prepared.subject.pattern.level) fit.within.work (c.decide_on.ensures.work fit.fresh out)))
    (subst (λ asks. IsDecided (next_of (rule_value prepared.leaper.rule)) is.cells is.other asks c.decide_on.result) c.asks-asks.ensures (c.decide_on.ensures.decided is.cells is.other is.shown))
