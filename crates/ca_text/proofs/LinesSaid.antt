-- What lines say, one line after another.
use Rattle.std.proofs.Common.{◌≡◌, ℕ, suc, ◌+◌, List, [], ◌∷◌, ◌++◌, length, Option, Some, None, unwrap_or, refl, sym, ap, subst, ◌∙◌, inl, inr, append_assoc, arith}
use Rattle.std.specs.Option.{option_or}
use Rattle.std.specs.Str.{bytes_eq}
use Rattle.std.proofs.lemmas.Bool.{cases_Bool}
use Rattle.std.proofs.lemmas.List.{append-nil}
use Rattle.ca_plane.specs.Prelude.{words_of}
use Rattle.ca_text.specs.Prelude.{map_patterns, ClaimTextLine, Version, Rule, Load, Claims, path_of, ClaimWordsSay, IsAllowedLine, ClaimLinesSay, said_lines, rule_paths, file_paths, claims_from}
use Rattle.ca_text.specs.inner.Reading.{SaysNext}

-- what lines say and then more lines
pub spoken-append : (said more : List (Option ClaimTextLine)) → said_lines (said ++ more) ≡ said_lines said ++ said_lines more
spoken-append [] more = refl
spoken-append (None ∷ said) more = spoken-append said more
spoken-append (Some line ∷ said) more = ap (λ l. line ∷ l) (spoken-append said more)

-- the paths of their tables
pub rule_paths-append : (said more : List (Option ClaimTextLine)) → rule_paths (said ++ more) ≡ rule_paths said ++ rule_paths more
rule_paths-append [] more = refl
rule_paths-append (None ∷ said) more = rule_paths-append said more
rule_paths-append (Some Version ∷ said) more = rule_paths-append said more
rule_paths-append (Some (Rule path) ∷ said) more = ap (λ l. path ∷ l) (rule_paths-append said more)
rule_paths-append (Some (Load name path) ∷ said) more = rule_paths-append said more
rule_paths-append (Some (Claims claim) ∷ said) more = rule_paths-append said more

-- the paths of their files
pub file_paths-append : (said more : List (Option ClaimTextLine)) → file_paths (said ++ more) ≡ file_paths said ++ file_paths more
file_paths-append [] more = refl
file_paths-append (None ∷ said) more = file_paths-append said more
file_paths-append (Some Version ∷ said) more = file_paths-append said more
file_paths-append (Some (Rule path) ∷ said) more = ap (λ l. path ∷ l) (file_paths-append said more)
file_paths-append (Some (Load name path) ∷ said) more = ap (λ l. path ∷ l) (file_paths-append said more)
file_paths-append (Some (Claims claim) ∷ said) more = file_paths-append said more

-- the path that they load a name from
pub path_of-append : (lines more : List ClaimTextLine) (name : List ℕ) → path_of (lines ++ more) name ≡ option_or (path_of lines name) (path_of more name)
path_of-append [] more name = refl
path_of-append (Version ∷ lines) more name = path_of-append lines more name
path_of-append (Rule path ∷ lines) more name = path_of-append lines more name
path_of-append (Load loaded path ∷ lines) more name =
    let later = path_of-append lines more name in
    elim (cases_Bool (bytes_eq loaded name)) [ inl e ↦ rw e refl | inr e ↦ rw e later ]
path_of-append (Claims claim ∷ lines) more name = path_of-append lines more name

-- the claims of lines depend on their first number and the lines before
same_claims : (m n : ℕ) (lines others : List ClaimTextLine) (more : List (Option ClaimTextLine)) → m ≡ n → lines ≡ others → claims_from m lines more ≡ claims_from n others more
same_claims m n lines others more e f = λ i. claims_from (e i) (f i) more

-- one line is before the others
pub one_before : (earlier : List ClaimTextLine) (line : ClaimTextLine) (lines : List ClaimTextLine) → (earlier ++ line ∷ []) ++ lines ≡ earlier ++ line ∷ lines
one_before earlier line lines = append_assoc earlier (line ∷ []) lines

-- the claims that they make
pub claims_from-append : (n : ℕ) (earlier : List ClaimTextLine) (said more : List (Option ClaimTextLine)) → claims_from n earlier (said ++ more) ≡ claims_from n earlier said ++ claims_from (n + length said) (earlier ++ said_lines said) more
claims_from-append n earlier [] more = ap (λ k. claims_from k earlier more) (omega arith) ∙ ap (λ l. claims_from (n + 0) l more) (sym (append-nil earlier))
claims_from-append n earlier (None ∷ said) more =
    claims_from-append (n + 1) earlier said more
    ∙ ap (λ l. claims_from (n + 1) earlier said ++ l) (same_claims _ _ _ _ more (omega arith) refl)
claims_from-append n earlier (Some Version ∷ said) more =
    let line = Version in
    claims_from-append (n + 1) (earlier ++ line ∷ []) said more
    ∙ ap (λ l. claims_from (n + 1) (earlier ++ line ∷ []) said ++ l) (same_claims _ _ _ _ more (omega arith) (one_before earlier line (said_lines said)))
claims_from-append n earlier (Some (Rule path) ∷ said) more =
    let line = Rule path in
    claims_from-append (n + 1) (earlier ++ line ∷ []) said more
    ∙ ap (λ l. claims_from (n + 1) (earlier ++ line ∷ []) said ++ l) (same_claims _ _ _ _ more (omega arith) (one_before earlier line (said_lines said)))
claims_from-append n earlier (Some (Load name path) ∷ said) more =
    let line = Load name path in
    claims_from-append (n + 1) (earlier ++ line ∷ []) said more
    ∙ ap (λ l. claims_from (n + 1) (earlier ++ line ∷ []) said ++ l) (same_claims _ _ _ _ more (omega arith) (one_before earlier line (said_lines said)))
claims_from-append n earlier (Some (Claims claim) ∷ said) more =
    let line = Claims claim in
    ap (λ l. (n, map_patterns (λ name. (name, unwrap_or (path_of earlier name) [])) claim) ∷ l)
    (claims_from-append (n + 1) (earlier ++ line ∷ []) said more
    ∙ ap (λ l. claims_from (n + 1) (earlier ++ line ∷ []) said ++ l) (same_claims _ _ _ _ more (omega arith) (one_before earlier line (said_lines said))))

-- each line says something or nothing
pub length_said : (earlier : List ClaimTextLine) (lines : List (List ℕ)) (said : List (Option ClaimTextLine)) → ClaimLinesSay earlier lines said → length said ≡ length lines
length_said earlier [] [] h = refl
length_said earlier [] (s ∷ said) h = absurd h
length_said earlier (l ∷ ls) [] h = absurd h
length_said earlier (l ∷ ls) (None ∷ said) h = ap suc (length_said earlier ls said h.1)
length_said earlier (l ∷ ls) (Some line ∷ said) h = ap suc (length_said (earlier ++ line ∷ []) ls said h.3)

-- one more line
pub ClaimLinesSay-push : (earlier : List ClaimTextLine) (lines : List (List ℕ)) (said : List (Option ClaimTextLine)) (l : List ℕ) (s : Option ClaimTextLine) → ClaimLinesSay earlier lines said → SaysNext (earlier ++ said_lines said) (words_of l) s → ClaimLinesSay earlier (lines ++ l ∷ []) (said ++ s ∷ [])
ClaimLinesSay-push earlier [] [] l None h next = (next, tt)
ClaimLinesSay-push earlier [] [] l (Some line) h next =
    (next.0, subst (λ ls. ClaimWordsSay ls (words_of l) line) (append-nil earlier) next.1, subst (λ ls. IsAllowedLine ls line) (append-nil earlier) next.2, tt)
ClaimLinesSay-push earlier [] (s ∷ said) l t h next = absurd h
ClaimLinesSay-push earlier (k ∷ ks) [] l t h next = absurd h
ClaimLinesSay-push earlier (k ∷ ks) (None ∷ said) l t h next = (h.0, ClaimLinesSay-push earlier ks said l t h.1 next)
ClaimLinesSay-push earlier (k ∷ ks) (Some line ∷ said) l t h next =
    let after : SaysNext ((earlier ++ line ∷ []) ++ said_lines said) (words_of l) t = subst (λ ls. SaysNext ls (words_of l) t) (sym (one_before earlier line (said_lines said))) next in
    (h.0, h.1, h.2, ClaimLinesSay-push (earlier ++ line ∷ []) ks said l t h.3 after)
