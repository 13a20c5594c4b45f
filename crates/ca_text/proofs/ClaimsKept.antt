-- The claims that are kept, about the places of names and paths, and what they stand for.
use Rattle.std.proofs.Common.{◌≡◌, ℕ, ◌<◌, List, map, length, get_or, option_map, slice_get, Some, sym, ap, subst, ◌∙◌}
use Rattle.std.proofs.lemmas.List.{length-map}
use Rattle.std.proofs.lemmas.Option.{same_Some, slice_get-map, slice_get_read}
use Rattle.ca_text.specs.declared.line.{Claim.Claim as ClaimOf, ClaimLine.ClaimLine, NamePlace.NamePlace, NamedPath.NamedPath}
use Rattle.ca_text.specs.Prelude.{map_both, Claim, map_patterns, by_path, named_patterns, path_at, claim_with_paths, named_at, claim_with_names, named_path}

module _ (names paths : List (List ℕ)) (claims : List (ClaimLine NamePlace)) where
  -- there are as many
  pub as_many : {X : Type 0} (f : ℕ × ClaimOf (List ℕ × List ℕ) → X) → length (map f (map (claim_with_names names paths) claims)) ≡ length claims
  as_many f = length-map (map (claim_with_names names paths) claims) f ∙ length-map claims (claim_with_names names paths)

  -- one of them, at its index
  pub stands_for : {X : Type 0} (f : ℕ × ClaimOf (List ℕ × List ℕ) → X) (i : ℕ) (l : ClaimLine NamePlace) → i < length (map f (map (claim_with_names names paths) claims)) → l ≡ get_or claims i l
      → slice_get (map f (map (claim_with_names names paths) claims)) i ≡ Some (f (claim_with_names names paths l))
  stands_for f i l within at =
      slice_get-map f (map (claim_with_names names paths) claims) i
      ∙ ap (option_map f) (slice_get-map (claim_with_names names paths) claims i ∙ ap (option_map (claim_with_names names paths)) (slice_get_read claims _ i l (as_many f) within at))

  -- and about the paths alone
  pub claim_at : (i : ℕ) (l : ClaimLine NamePlace) (claim : ClaimOf ℕ) → i < length (map by_path (map (claim_with_names names paths) claims)) → l ≡ get_or claims i l → claim ≡ map_patterns (λ p. p.path) l.claim
      → slice_get (map by_path (map (claim_with_names names paths) claims)) i ≡ Some (claim_with_paths paths (record { line = l.line; claim = claim }))
  claim_at i l claim within at same = stands_for by_path i l within at ∙ ap (λ k. Some (claim_with_paths paths (record { line = l.line; claim = k }))) (sym same)

  -- and the names and paths of its patterns
  pub patterns_at : (i : ℕ) (l : ClaimLine NamePlace) → i < length (map by_path (map (claim_with_names names paths) claims)) → l ≡ get_or claims i l
      → slice_get (map named_patterns (map (claim_with_names names paths) claims)) i ≡ Some (map_both (named_at names paths) l.claim.patterns)
  patterns_at i l within at = stands_for named_patterns i l (subst (λ n. i < n) (as_many by_path ∙ sym (as_many named_patterns)) within) at

  -- its patterns are at these places
  pub patterns_claimed : (i : ℕ) (l : ClaimLine NamePlace) → i < length (map by_path (map (claim_with_names names paths) claims)) → l ≡ get_or claims i l
      → (claim : ℕ × Claim) → slice_get (map by_path (map (claim_with_names names paths) claims)) i ≡ Some claim → claim.1.patterns ≡ map_both (λ p. path_at paths p.path) l.claim.patterns
  patterns_claimed i l within at claim is = ap (λ c. c.1.patterns) (same_Some claim (by_path (claim_with_names names paths l)) (sym is ∙ stands_for by_path i l within at))

-- a name that was looked up, and its path
pub looked_up : (names paths : List (List ℕ)) (place : NamePlace) (n : NamedPath) → n.name.now ≡ path_at names place.name → n.path ≡ place.path → named_at names paths place ≡ named_path paths n
looked_up names paths place n name path = λ i. (sym name i, path_at paths (sym path i))
