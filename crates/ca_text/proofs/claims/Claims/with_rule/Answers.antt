use Rattle.std.proofs.Common.{ℕ, ◌<◌, List, map, length, slice_get, All, sym, ap, subst, ◌∙◌}
use Rattle.std.specs.List.{IsDistinct}
use Rattle.std.specs.Str.{bytes_eq}
use Rattle.ca_text.specs.Prelude.{IsNamed, with_rule_line, with_word}
use Rattle.ca_text.proofs.RuleLines.{kept_text, one_rule_more, rules_within, claims_there}
use Rattle.ca_text.proofs.claims.Claims.with_rule.Goals as goal

pub invariant_of-self : goal.invariant_of-self
invariant_of-self c =
    let kept = c.self.inside in
    let path : List ℕ = c.args.path.now in
    let place = c.in_ok-table.table in
    let names : List (List ℕ) = map (λ n. n.items) kept.names.items in
    let more = with_word kept.paths path in
    let distinct = subst (λ a. IsDistinct bytes_eq a.paths) (sym c.self.view_is) c.path_count.ensures.distinct in
    let at = ap (λ l. slice_get l place) (sym c.in_ok-table.ensures.words) ∙ c.in_ok-table.ensures.index in (
      subst (λ ps. All (λ i. i < length ps) c.push.new.self.items) (sym c.in_ok-table.ensures.words)
          (subst (All (λ i. i < length more)) (sym c.in_ok-push.ensures.items)
          (rules_within names kept.paths distinct kept.rules.items kept.claims.items c.self.invariant.0 c.self.invariant.1 path place at)),
      subst (λ ps. All (λ l. IsNamed names ps l.claim) kept.claims.items) (sym c.in_ok-table.ensures.words)
          (claims_there names kept.paths distinct kept.rules.items kept.claims.items c.self.invariant.0 c.self.invariant.1 path place at),
    )

pub returns : goal.returns
returns c =
    let kept = c.self.inside in
    let path : List ℕ = c.args.path.now in
    let place = c.in_ok-table.table in
    let names : List (List ℕ) = map (λ n. n.items) kept.names.items in
    let distinct = subst (λ a. IsDistinct bytes_eq a.paths) (sym c.self.view_is) c.path_count.ensures.distinct in
    let paths = c.in_ok-table.ensures.words in
    let items = c.in_ok-push.ensures.items in
    let at = ap (λ l. slice_get l place) (sym paths) ∙ c.in_ok-table.ensures.index in
    (λ i. kept_text names (paths i) (items i) kept.claims.items)
    ∙ one_rule_more names kept.paths distinct kept.rules.items kept.claims.items c.self.invariant.0 c.self.invariant.1 path place at
    ∙ ap (λ a. with_rule_line a path) c.self.view_is
