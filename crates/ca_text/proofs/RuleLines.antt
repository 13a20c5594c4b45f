-- A text with one more rule line at its end.
use Rattle.std.proofs.Common.{◌≡◌, ℕ, ◌<◌, false, not, List, [], ◌∷◌, ◌++◌, map, filter, slice_get, length, All, Some, unwrap_or, inl, inr, refl, sym, ap, ◌∙◌}
use Rattle.std.specs.List.{AllByRecursion, IsDistinct}
use Rattle.std.specs.Str.{bytes_eq}
use Rattle.std.proofs.lemmas.Bool.{cases_Bool, false≢true}
use Rattle.std.proofs.lemmas.List.{map-append}
use Rattle.std.proofs.lemmas.List.Elements.{All-push}
use Rattle.std.proofs.lemmas.Option.{slice_get_within}
use Rattle.std.proofs.lemmas.Slice.Eq.{bytes_eq-Decides}
use Rattle.ca_text.specs.declared.line.{ClaimLine.ClaimLine, NamePlace.NamePlace}
use Rattle.ca_text.specs.Prelude.{path_at, claim_with_names, IsNamed, ClaimText, by_path, named_patterns, paths_once, with_rule_line, with_word}
use Rattle.ca_text.proofs.PathLists.{paths_once-push}
use Rattle.ca_text.proofs.NextLines.{grown_same, grown_path, rules_kept, places_kept, all_kept, all_there}

-- a path unlike all others is taken out of none of them
none_taken : (p : List ℕ) (ps : List (List ℕ)) → AllByRecursion (λ q. bytes_eq p q ≡ false) ps → filter (λ q. not (bytes_eq q p)) ps ≡ ps
none_taken p [] other = refl
none_taken p (q ∷ qs) other = elim (cases_Bool (bytes_eq q p)) [
  | inl same ↦ absurd (false≢true (sym other.0 ∙ (bytes_eq-Decides p q).1 (sym ((bytes_eq-Decides q p).0 same))))
  | inr apart ↦ rw apart (ap (λ l. q ∷ l) (none_taken p qs other.1))
]

-- paths of which no two are equal, each once
once_same : (paths : List (List ℕ)) → IsDistinct bytes_eq paths → paths_once paths ≡ paths
unfolding IsDistinct
once_same [] distinct = refl
once_same (p ∷ ps) distinct = ap (λ l. p ∷ filter (λ q. not (bytes_eq q p)) l) (once_same ps distinct.1) ∙ ap (λ l. p ∷ l) (none_taken p ps distinct.0)

-- and once more
one_path_more : (paths : List (List ℕ)) (path : List ℕ) → IsDistinct bytes_eq paths → with_word paths path ≡ paths_once (paths ++ path ∷ [])
one_path_more paths path distinct = ap (λ l. with_word l path) (sym (once_same paths distinct)) ∙ sym (paths_once-push paths path)

-- what is asked by what is kept of a text
abbrev pub kept_text : (names paths : List (List ℕ)) (rules : List ℕ) (claims : List (ClaimLine NamePlace)) → ClaimText
kept_text names paths rules claims = record {
  paths = paths;
  rules = map (path_at paths) rules;
  claims = map by_path (map (claim_with_names names paths) claims);
  patterns = map named_patterns (map (claim_with_names names paths) claims);
}

module _ (names paths : List (List ℕ)) (distinct : IsDistinct bytes_eq paths) (rules : List ℕ) (claims : List (ClaimLine NamePlace)) (within : All (λ i. i < length paths) rules)
    (good : All (λ l. IsNamed names paths l.claim) claims) (path : List ℕ) (place : ℕ) (at : slice_get (with_word paths path) place ≡ Some path) where
  -- a rule line more
  pub one_rule_more : kept_text names (with_word paths path) (rules ++ place ∷ []) claims ≡ with_rule_line (kept_text names paths rules claims) path
  one_rule_more =
      let more = with_word paths path in
      let longer = grown_path paths path in
      let once = one_path_more paths path distinct in
      let ruled = map-append (path_at more) rules (place ∷ [])
      ∙ ap (λ l. l ++ path_at more place ∷ []) (rules_kept paths more longer rules within)
      ∙ ap (λ o. map (path_at paths) rules ++ unwrap_or o [] ∷ []) at in
      let same = all_kept names names paths more (grown_same names) longer claims good in
      λ i. record { paths = once i; rules = ruled i; claims = map by_path (same i); patterns = map named_patterns (same i) }

  -- whose table's path is there
  pub rules_within : All (λ i. i < length (with_word paths path)) (rules ++ place ∷ [])
  rules_within = All-push (λ i. i < length (with_word paths path)) rules place (places_kept paths (with_word paths path) (grown_path paths path) rules within) (slice_get_within (with_word paths path) place path at)

  pub claims_there : All (λ l. IsNamed names (with_word paths path) l.claim) claims
  claims_there = all_there names names paths (with_word paths path) (grown_same names) (grown_path paths path) claims good
