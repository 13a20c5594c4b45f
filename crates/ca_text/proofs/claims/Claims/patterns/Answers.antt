use Rattle.std.proofs.Common.{◌≡◌, ◌<◌, ℕ, List, map, Some, length, slice_get, sym, ap, subst, ◌∙◌}
use Rattle.ca_text.specs.Prelude.{Claim, path_at, named_path}
use Rattle.ca_text.proofs.ClaimsKept.{patterns_at, patterns_claimed, looked_up}
use Rattle.ca_text.proofs.claims.Claims.patterns.Goals as goal

pub returns-clause-patterns : goal.returns-clause-patterns
returns-clause-patterns c =
    let kept = c.self.inside in
    let names : List (List ℕ) = map (λ n. n.items) kept.names.items in
    let l = c.index.result.now in
    let places = l.claim.patterns in
    let one = c.name_and_path.ensures.name ∙ ap (λ l. path_at (map (λ n. n.items) l) places.first.name) c.deref.ensures.value in
    let two = c.name_and_path-2.ensures.name ∙ ap (λ l. path_at (map (λ n. n.items) l) places.second.name) c.deref-2.ensures.value in
    let first = looked_up names kept.paths places.first c.name_and_path.result one c.name_and_path.ensures.path in
    let second = looked_up names kept.paths places.second c.name_and_path-2.result two c.name_and_path-2.ensures.path in
    subst (λ a. c.args.index < length a.claims → slice_get a.patterns c.args.index ≡ Some (record { first = named_path a.paths c.name_and_path.result; second = named_path a.paths c.name_and_path-2.result })) c.self.view_is
    (λ within. patterns_at names kept.paths kept.claims.items c.args.index l within c.index.ensures
    ∙ (λ i. Some (record { first = first i; second = second i }))) c.requires

pub returns-clause-claim : goal.returns-clause-claim
returns-clause-claim c =
    let paths = c.self.inside.paths in
    let one = sym c.name_and_path.ensures.path in
    let two = sym c.name_and_path-2.ensures.path in
    subst (λ a. c.args.index < length a.claims → (claim : ℕ × Claim) → slice_get a.claims c.args.index ≡ Some claim
    → claim.1.patterns ≡ record { first = path_at a.paths c.name_and_path.result.path; second = path_at a.paths c.name_and_path-2.result.path }) c.self.view_is
    (λ within claim is. patterns_claimed _ paths _ _ _ within c.index.ensures claim is
    ∙ (λ i. record { first = path_at paths (one i); second = path_at paths (two i) })) c.requires
