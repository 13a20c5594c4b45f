-- What is known of the numbered names of names that were asked for.
use Rattle.std.proofs.Common.{◌≡◌, ℕ, true, cond, ◌||◌, List, [], ◌∷◌, ◌++◌, Some, Vec, Global, inl, inr, sym, ap, subst, ◌∙◌}
use Rattle.std.specs.Map.{lookup}
use Rattle.std.specs.Str.{bytes_eq}
use Rattle.std.proofs.lemmas.Bool.{cases_Bool, or_left, false≢true}
use Rattle.std.proofs.lemmas.Option.{same_Some, none-some}
use Rattle.std.proofs.lemmas.Slice.Eq.{bytes_eq-Decides}
use Rattle.indexmap.specs.IndexMap.{insert_entry}
use Rattle.ca_identify_lines.specs.Prelude.{numbered_name, is_taken}
use Rattle.ca_identify_lines.specs.inner.Tried.{IsTried, AreTried}

-- a taken name stays taken
stays_taken : (taken : List (List ℕ)) (more name : List ℕ) → is_taken taken name ≡ true → is_taken (taken ++ more ∷ []) name ≡ true
stays_taken [] more name h = absurd (false≢true h)
stays_taken (t ∷ ts) more name h = elim (cases_Bool (bytes_eq name t)) [
  | inl same ↦ or_left (bytes_eq name t) (is_taken (ts ++ more ∷ []) name) same
  | inr other ↦ rw other (stays_taken ts more name (sym (ap (λ b. b || is_taken ts name) other) ∙ h))
]

-- so what was tried is still tried when one more name is taken
pub tried_more : (taken : List (List ℕ)) (more : List ℕ) (tried : List (Vec ℕ Global × ℕ)) → AreTried taken tried → AreTried (taken ++ more ∷ []) tried
tried_more taken more [] h = h
tried_more taken more (e ∷ es) h = (λ k below. stays_taken taken more (numbered_name e.0.items k) (h.0 k below), tried_more taken more es h.1)

-- what the map has for a name
pub tried_found : (taken : List (List ℕ)) (name : List ℕ) (tried : List (Vec ℕ Global × ℕ)) (count : ℕ) → AreTried taken tried → lookup (λ key. bytes_eq name key.items) tried ≡ Some count → IsTried taken name count
tried_found taken name [] count h found = absurd (none-some count found)
tried_found taken name (e ∷ es) count h found = elim (cases_Bool (bytes_eq name e.0.items)) [
  | inl same ↦
      let value : e.1 ≡ count = same_Some e.1 count (sym (ap (λ b. cond b (Some e.1) (lookup (λ (key : Vec ℕ Global). bytes_eq name key.items) es)) same) ∙ found) in
      subst (λ n. IsTried taken n count) (sym ((bytes_eq-Decides name e.0.items).0 same)) (subst (IsTried taken e.0.items) value h.0)
  | inr other ↦ tried_found taken name es count h.1 (sym (ap (λ b. cond b (Some e.1) (lookup (λ (key : Vec ℕ Global). bytes_eq name key.items) es)) other) ∙ found)
]

-- what the map has after one more name is put into it
pub tried_put : (taken : List (List ℕ)) (name : Vec ℕ Global) (count : ℕ) (tried : List (Vec ℕ Global × ℕ)) → IsTried taken name.items count → AreTried taken tried
    → AreTried taken (insert_entry (λ v w. bytes_eq v.items w.items) tried name count)
tried_put taken name count [] is h = (is, h)
tried_put taken name count (e ∷ es) is h = elim (cases_Bool (bytes_eq name.items e.0.items)) [
  | inl same ↦ rw same (subst (λ n. IsTried taken n count) ((bytes_eq-Decides name.items e.0.items).0 same) is, h.1)
  | inr other ↦ rw other (h.0, tried_put taken name count es is h.1)
]
