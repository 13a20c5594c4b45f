-- What the statements of a rule table have said, after one more of them.
use Rattle.std.proofs.Common.{◌≡◌, ℕ, suc, ◌+◌, ◌<◌, List, [], ◌∷◌, ◌++◌, length, cond, Option, Some, None, if◌then◌else◌, refl, sym, ap, subst, ◌∙◌, inl, inr, arith}
use Rattle.std.specs.List.{AllZip}
use Rattle.std.specs.Map.{update}
use Rattle.std.specs.Option.{option_or}
use Rattle.std.specs.Str.{bytes_eq}
use Rattle.std.proofs.lemmas.Bool.{cases_Bool}
use Rattle.std.proofs.lemmas.List.{map-append, length-map}
use Rattle.ca_rule.specs.declared.table.{slot.Slot.Slot, statements.Statements.Statements}
use Rattle.ca_rule.specs.declared.table.slot.Slot.TheVariants.{Number, Variable}
use Rattle.ca_rule.specs.Prelude.{States, Settings, SaidStatements, StandsFor, number_of, states_said, states_among}
use Rattle.ca_rule.specs.inner.TableNames.{number_in, IsSlot}
use Rattle.ca_rule.specs.inner.TableSaid.{KeepsStatements, with_variable, with_transition}
use Rattle.ca_rule.proofs.AmongStates.{zero-plus}

-- the number of a name, with one more variable
pub number-snoc : (n : ℕ) (vs : List (List ℕ × States)) (name : List ℕ) (states : States) (other : List ℕ)
    → number_of n (vs ++ (name, states) ∷ []) other ≡ update bytes_eq (number_of n vs) name (Some (n + length vs)) other
number-snoc n [] name states other =
    elim (cases_Bool (bytes_eq name other)) [
      | inl e ↦ rw e (ap Some (omega arith))
      | inr e ↦ rw e refl
    ]
number-snoc n (v ∷ vs) name states other =
    let more = number-snoc (n + 1) vs name states other in
    elim (cases_Bool (bytes_eq name other)) [
      | inl e ↦ let k : number_of (n + 1) (vs ++ (name, states) ∷ []) other ≡ Some (n + suc (length vs)) = more ∙ rw e (ap Some (omega arith)) in
          ap (λ o. option_or o (if bytes_eq v.0 other then Some n else None)) k ∙ rw e refl
      | inr e ↦ let k : number_of (n + 1) (vs ++ (name, states) ∷ []) other ≡ number_of (n + 1) vs other = more ∙ rw e refl in
          ap (λ o. option_or o (if bytes_eq v.0 other then Some n else None)) k ∙ rw e refl
    ]

-- fields stand for what their names are numbered as
module _ (settings : Settings) (said : SaidStatements) (count : ℕ) (numbers : List ℕ → Option ℕ) (same : settings.states ≡ count) (named : (name : List ℕ) → numbers name ≡ number_of 0 said.variables name) where
  stands : (field : List ℕ) (slot : Slot) → IsSlot count numbers field slot → StandsFor settings said field slot
  stands field (Number state) h = (h.0, h.1, subst (λ c. state < c) (sym same) h.2)
  stands field (Variable v) h = (h.0, sym (named field) ∙ h.1)

  pub all-stand : (fields : List (List ℕ)) (slots : List Slot) → AllZip (IsSlot count numbers) fields slots → AllZip (StandsFor settings said) fields slots
  all-stand [] [] h = tt
  all-stand [] (s ∷ ss) h = absurd h
  all-stand (f ∷ fs) [] h = absurd h
  all-stand (f ∷ fs) (s ∷ ss) h = (stands f s h.0, all-stand fs ss h.1)

-- one more variable is kept
pub variable-kept : (settings : Settings) (said : SaidStatements) (old new : Statements) (name : List ℕ) (slots : List Slot) (set : States) (number : ℕ) → KeepsStatements said old
    → ((other : List ℕ) → number_in new.names other ≡ update bytes_eq (number_in old.names) name (Some number) other) → number ≡ length old.variables.items
    → new.variables.items ≡ old.variables.items ++ set ∷ [] → set ≡ states_among settings (states_said said) slots → new.transitions.items ≡ old.transitions.items → KeepsStatements (with_variable settings said name slots) new
variable-kept settings said old new name slots set number kept put counted pushed among others =
    let many : number ≡ 0 + length said.variables = counted ∙ ap length (sym kept.sets) ∙ length-map said.variables (λ (v : List ℕ × States). v.1) ∙ sym (zero-plus (length said.variables)) in
    record {
      named = λ other. put other ∙ ap (λ n. update bytes_eq (number_in old.names) name (Some n) other) many
          ∙ ap (λ o. cond (bytes_eq name other) (Some (0 + length said.variables)) o) (kept.named other)
          ∙ sym (number-snoc 0 said.variables name (states_among settings (states_said said) slots) other);
      sets = map-append (λ (v : List ℕ × States). v.1) said.variables ((name, states_among settings (states_said said) slots) ∷ [])
          ∙ ap (λ l. l ++ states_among settings (states_said said) slots ∷ []) kept.sets ∙ ap (λ x. old.variables.items ++ x ∷ []) (sym among) ∙ sym pushed;
      lines = kept.lines ∙ sym others;
    }

-- one more transition is kept
pub transition-kept : (said : SaidStatements) (old new : Statements) (inputs : List Slot) (result : Slot) → KeepsStatements said old → new.names ≡ old.names → new.variables.items ≡ old.variables.items
    → new.transitions.items ≡ old.transitions.items ++ record { inputs = inputs; result = result } ∷ [] → KeepsStatements (with_transition said inputs result) new
transition-kept said old new inputs result kept names sets pushed = record {
  named = λ name. ap (λ n. number_in n name) names ∙ kept.named name;
  sets = kept.sets ∙ sym sets;
  lines = ap (λ l. l ++ record { inputs = inputs; result = result } ∷ []) kept.lines ∙ sym pushed;
}
