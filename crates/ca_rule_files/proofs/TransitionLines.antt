-- The lines of the transitions of one neighbourhood more.
use Rattle.std.proofs.Common.{◌≡◌, ℕ, ◌+◌, List, [], ◌∷◌, ◌++◌, map, filter, Bool, true, false, not, ◌==◌, refl, sym, ap, subst, ◌∙◌, inl, inr, zero-add, if◌then◌else◌, slice_index}
use Rattle.std.specs.List.{AllByRecursion}
use Rattle.std.proofs.lemmas.Bool.{cases_Bool}
use Rattle.std.proofs.lemmas.List.{map-append, append-nil}
use Rattle.std.proofs.lemmas.List.FromFn.{filter_of_map_range_with_len_more}
use Rattle.ca_plane.specs.Prelude.{text_of, Puts}
use Rattle.ca_rule_files.specs.WrittenTables.{transition_line, transition_lines, neighbourhood, neighbourhoods, changes}
use Rattle.ca_rule_files.proofs.PutTexts.{put-more}

pub kept : {X : Type 0} (P : X → Type 0) (test : X → Bool) (xs : List X) → AllByRecursion P xs → AllByRecursion P (filter test xs)
kept P test [] all = tt
kept P test (x ∷ xs) all = elim (cases_Bool (test x)) [
  | inl t ↦ subst (λ v. AllByRecursion P (if v then x ∷ filter test xs else filter test xs)) (sym t) (all.0, kept P test xs all.1)
  | inr t ↦ subst (λ v. AllByRecursion P (if v then x ∷ filter test xs else filter test xs)) (sym t) (kept P test xs all.1)
]

-- ---- one neighbourhood more

-- the lines of no neighbourhoods
pub no-lines : (variables : Bool) (next : List ℕ → ℕ) → transition_lines variables next 0 ≡ []
unfolding neighbourhoods
no-lines variables next = refl

-- its line is put, or it is left out
module _ (variables : Bool) (next : List ℕ → ℕ) (count : ℕ) (old now : List ℕ) (before : Puts old now (text_of (transition_lines variables next count))) where
  abbrev line_for : List ℕ → List ℕ
  line_for nine = transition_line variables nine (next nine)

  more : (does : Bool) → changes next (neighbourhood count) ≡ does → transition_lines variables next (count + 1) ≡ transition_lines variables next count ++ map line_for (if does then neighbourhood count ∷ [] else [])
  unfolding neighbourhoods
  more does e =
      ap (map line_for) (filter_of_map_range_with_len_more (changes next) neighbourhood 0 count count (zero-add count))
      ∙ map-append line_for (filter (changes next) (neighbourhoods count)) (if changes next (neighbourhood count) then neighbourhood count ∷ [] else [])
      ∙ ap (λ v. transition_lines variables next count ++ map line_for (if v then neighbourhood count ∷ [] else [])) e

  pub one-more : (new nine : List ℕ) (result : ℕ) → nine ≡ neighbourhood count → result ≡ next nine → (result == slice_index nine 4) ≡ false → Puts now new (transition_line variables nine result ++ 10 ∷ [])
      → Puts old new (text_of (transition_lines variables next (count + 1)))
  one-more new nine result is becomes differs =
      let line = transition_line variables nine result in
      let same : line_for (neighbourhood count) ≡ transition_line variables nine result = sym (ap (transition_line variables nine) becomes ∙ ap line_for is) in
      let t : changes next (neighbourhood count) ≡ true = ap (changes next) (sym is) ∙ ap (λ r. not (r == slice_index nine 4)) (sym becomes) ∙ ap not differs in
      put-more old now new (transition_lines variables next count) (transition_lines variables next (count + 1)) line (more true t ∙ ap (λ l. transition_lines variables next count ++ l ∷ []) same) before

  pub none-more : (nine : List ℕ) (result : ℕ) → nine ≡ neighbourhood count → result ≡ next nine → (result == slice_index nine 4) ≡ true → Puts old now (text_of (transition_lines variables next (count + 1)))
  none-more nine result is becomes stays =
      let t : changes next (neighbourhood count) ≡ false = ap (changes next) (sym is) ∙ ap (λ r. not (r == slice_index nine 4)) (sym becomes) ∙ ap not stays in
      record { whole = before.whole ∙ ap (λ ls. old ++ text_of ls) (sym (more false t ∙ append-nil (transition_lines variables next count))) }
