use Rattle.std.proofs.Common.{◌<◌, refl, sym, subst}
use Rattle.ca_text.specs.Prelude.{map_both, HoldsOfBoth, map_patterns, path_at, named_path}
use Rattle.ca_verify.specs.inner.Refusals.{IsOnVerdict}
use Rattle.ca_verify.proofs.judge.answer_to.Goals as goal

pub verdict_on-judged-requires : goal.verdict_on-judged-requires
verdict_on-judged-requires g c = record {
  limits = c.requires.limits;
  within = subst (λ n. HoldsOfBoth (λ i. i < n) c.claim-asked.result.claim.patterns) (sym c.requires.found) c.claim-asked.ensures.asked.within;
  numbers = c.claim-asked.ensures.asked.numbers;
}

pub returns : goal.returns
returns g c = λ files e read.
    let paths = c.args.claims.now.paths in
    let rules = c.args.claims.now.rules in
    let claim = map_patterns (path_at paths) c.claim-asked.result.claim in
    let judged = c.verdict_on-judged.ensures files paths rules (record { found = e; read = read }) in
    let same = c.patterns.ensures.claim (c.claim-asked.result.line, claim) c.claim-asked.ensures.claim in
    let noted = c.note_on.ensures files
    (subst (λ ps. IsOnVerdict files paths rules ps c.verdict_on-judged.result.verdict c.verdict_on-judged.result.about) same judged.on) in
    record {
      claim = (c.claim-asked.result.line, claim);
      at = c.claim-asked.ensures.claim;
      holds = (refl, judged.holds);
      within = judged.within;
      patterns = map_both (named_path paths) c.patterns.result;
      named = c.patterns.ensures.patterns;
      noted = noted.0;
      given = noted.1;
    }
