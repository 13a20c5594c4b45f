use Rattle.std.proofs.Common.{rules, ◌≡◌, ◌≢◌, ℕ, map, length, replicate, false, List, [], refl, sym, ap, ap₂, subst, ◌∙◌}
use Rattle.std.specs.List.{IsDistinct}
use Rattle.std.specs.Str.{bytes_eq}
use Rattle.std.proofs.lemmas.List.{nil_from_length}
use Rattle.ca_text.specs.Prelude.{ClaimText, by_path, named_patterns, path_at, claim_with_names, IsNeeded}
use Rattle.ca_text.specs.inner.Marks.{with_marks, claims_marked}
use Rattle.ca_text.proofs.PathMarks.{Marks, written_over, length-marked, length-claims_marked, needed_marks, nothing_needed}
use Rattle.ca_text.proofs.claims.Claims.needed.Goals as goal

pub returns-then-claim_count-eq0-clause-needed : goal.returns-then-claim_count-eq0-clause-needed
returns-then-claim_count-eq0-clause-needed c =
    let start : c.in_ok-needed.needed.items ≡ replicate (length c.args.self.now.paths) false =
    c.in_ok-needed.ensures.items_if_clones_equal (search rules) ∙ ap (λ k. replicate k false) c.path_count-count.ensures.count in
    let none : length c.args.self.now.claims ≡ 0 = sym c.claim_count.ensures.claims ∙ c.if-claim_count-eq0.true in
    subst (Marks (IsNeeded c.args.self.now) c.args.self.now.paths) (sym start) (nothing_needed c.args.self.now c.args.self.now.paths (nil_from_length c.args.self.now.claims none))

pub returns-clause-needed : goal.returns-clause-needed
returns-clause-needed c =
    let kept = c.self.inside in
    let names : List (List ℕ) = map (λ n. n.items) kept.names.items in
    let asked : ClaimText = record {
      paths = kept.paths;
      rules = map (path_at kept.paths) kept.rules.items;
      claims = map by_path (map (claim_with_names names kept.paths) kept.claims.items);
      patterns = map named_patterns (map (claim_with_names names kept.paths) kept.claims.items);
    } in
    let n = c.in_ok-needed.needed.len in
    let start : c.in_ok-needed.needed.items ≡ replicate (length c.args.self.now.paths) false =
    c.in_ok-needed.ensures.items_if_clones_equal (search rules) ∙ ap (λ k. replicate k false) c.path_count-count.ensures.count in
    let ruled = c.mark_each.ensures ∙ ap₂ with_marks c.deref_mut.ensures.value c.deref.ensures.value in
    let long : length c.mark_each.new.marks ≡ n = ap length ruled ∙ length-marked c.in_ok-needed.needed.items kept.rules.items ∙ sym c.in_ok-needed.needed.ok.0 in
    let between = c.deref_mut-2.ensures.value ∙ written_over n c.in_ok-needed.needed.items c.mark_each.new.marks long in
    let claimed = c.mark_claims.ensures ∙ ap₂ claims_marked between c.deref-2.ensures.value in
    let longer : length c.mark_claims.new.marks ≡ n = ap length claimed ∙ length-claims_marked c.mark_each.new.marks kept.claims.items ∙ long in
    let all : c.mark_claims.new.marks ≡ claims_marked (with_marks (replicate (length c.args.self.now.paths) false) kept.rules.items) kept.claims.items =
    claimed ∙ ap (λ l. claims_marked l kept.claims.items) (ruled ∙ ap (λ l. with_marks l kept.rules.items) start) in
    let needed = subst (λ a. IsDistinct bytes_eq a.paths → a.claims ≢ [] → Marks (IsNeeded a) a.paths (claims_marked (with_marks (replicate (length a.paths) false) kept.rules.items) kept.claims.items)) c.self.view_is
    (λ distinct some. needed_marks names kept.paths distinct kept.rules.items kept.claims.items asked some refl refl c.self.invariant.0 c.self.invariant.1) in
    subst (Marks (IsNeeded c.args.self.now) c.args.self.now.paths) (sym (written_over n _ c.mark_claims.new.marks longer ∙ all))
    (needed c.path_count-count.ensures.distinct (λ e. c.if-claim_count-eq0.false (c.claim_count.ensures.claims ∙ ap length e)))
