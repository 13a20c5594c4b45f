-- A statement of a rule table says one thing at most.
use Rattle.std.proofs.Common.{◌≡◌, ℕ, ◌<◌, ◌≤◌, ◌⊎◌, Bool, true, false, not, ◌||◌, List, [], ◌∷◌, ◌++◌, Option, Some, None, Result, Ok, Err, option_map, nat_lt, refl, sym, ap, subst, ◌∙◌, arith, inl, inr, true≢false}
use Rattle.std.specs.List.{list_all, AllZip}
use Rattle.std.proofs.lemmas.Bool.{cases_Bool, and_parts, false_from_ne_true}
use Rattle.std.proofs.lemmas.Bool.Decides.{nat_tests}
use Rattle.ca_plane.specs.Prelude.{is_digit, value}
use Rattle.ca_rule.specs.declared.table.{fault.TableFault.TableFault, slot.Slot.Slot}
use Rattle.ca_rule.specs.declared.table.fault.TableFault.TheVariants as faults
use Rattle.ca_rule.specs.declared.table.slot.Slot.TheVariants.{Number, Variable}
use Rattle.ca_rule.specs.Prelude.{are_digits, NumberedLine, begins_section, is_setting, is_name, is_field, IsVariableLine, IsTransitionLine, Settings, SaidStatements, number_of, StandsFor, is_bound}
use Rattle.ca_rule.specs.Prelude.{field_count, SaysVariable, SaysTransition, IsMisspelled, HasFields, HasBadState, HasUnknownName, HasUnbound}
use Rattle.ca_rule.specs.inner.TableSaid.{with_variable}
use Rattle.ca_rule.proofs.OneSpelling.{map-some, some_if, some-if, variable_of, variable-is-of, variable-of-is, transition_of, transition-is-of, transition-of-is, transition-no-section, variable-no-section, variable-no-setting, transition-no-setting}

-- what follows from a value; an error is passed on
abbrev pub then_ok : {T U E : Type 0} → (T → Result U E) → Result T E → Result U E
then_ok f (Ok x) = f x
then_ok f (Err e) = Err e

-- ---- fields

-- what a field stands for, where it is known whether it is a number
abbrev pub slot_if : Settings → SaidStatements → List ℕ → Bool → Option Slot
slot_if settings said field true = some_if (nat_lt (value field) settings.states) (Number (value field))
slot_if settings said field false = option_map Variable (number_of 0 said.variables field)

-- what a field stands for
abbrev pub slot_of : Settings → SaidStatements → List ℕ → Option Slot
slot_of settings said field = slot_if settings said field (are_digits field)

abbrev fault_if : ℕ → Bool → TableFault
fault_if n true = faults.States n
fault_if n false = faults.Variable n

-- the fault of a field that stands for nothing
abbrev field_fault : ℕ → List ℕ → TableFault
field_fault n field = fault_if n (are_digits field)

abbrev with_slot : Option Slot → TableFault → Result (List Slot) TableFault → Result (List Slot) TableFault
with_slot None fault later = Err fault
with_slot (Some s) fault later = then_ok (λ ss. Ok (s ∷ ss)) later

-- what the fields of the n-th line stand for, or the fault of the first that stands for nothing
abbrev pub slots_of : Settings → SaidStatements → ℕ → List (List ℕ) → Result (List Slot) TableFault
slots_of settings said n [] = Ok []
slots_of settings said n (f ∷ fs) = with_slot (slot_of settings said f) (field_fault n f) (slots_of settings said n fs)

-- a number is no name
digits-or-name : (field : List ℕ) → are_digits field ≡ true → is_name field ≡ true → ⊥
digits-or-name [] d n = cc
digits-or-name (b ∷ bs) d n =
    let digit : is_digit b ≡ true = (and_parts (is_digit b) (list_all is_digit bs) (and_parts _ (list_all is_digit (b ∷ bs)) d).1).0 in
    let none = (and_parts (not (is_digit b)) _ n).0 in
    true≢false (sym none ∙ ap not digit)

no-digits : (field : List ℕ) → is_name field ≡ true → are_digits field ≡ false
no-digits field n = false_from_ne_true (are_digits field) (λ d. digits-or-name field d n)

module _ (settings : Settings) (said : SaidStatements) where
  slot-is : (field : List ℕ) (slot : Slot) → StandsFor settings said field slot → slot_of settings said field ≡ Some slot
  slot-is field (Number state) h =
      let low : value field < settings.states = subst (λ v. v < settings.states) h.1 h.2 in
      let test : nat_lt (value field) settings.states ≡ true = grind (arith, nat_tests) in
      ap (slot_if settings said field) h.0
      ∙ ap (λ b. some_if b (Number (value field))) test ∙ ap (λ v. Some (Number v)) (sym h.1)
  slot-is field (Variable v) h =
      ap (slot_if settings said field) (no-digits field h.0)
      ∙ ap (option_map Variable) h.1

  pub slot-stands : (field : List ℕ) (slot : Slot) → is_field field ≡ true → slot_of settings said field ≡ Some slot → StandsFor settings said field slot
  slot-stands field slot is e = elim (cases_Bool (are_digits field)) [
    | inl d ↦
        let s = some-if (nat_lt (value field) settings.states) (Number (value field)) slot (ap (slot_if settings said field) (sym d) ∙ e) in
        let low : value field < settings.states = let k = s.0 in grind (arith, nat_tests) in
        subst (StandsFor settings said field) s.1 (d, refl, low)
    | inr d ↦
        let m = map-some Variable (number_of 0 said.variables field) slot (ap (slot_if settings said field) (sym d) ∙ e) in
        let name : is_name field ≡ true = ap (λ b. b || is_name field) (sym d) ∙ is in
        subst (StandsFor settings said field) m.2 (name, m.1)
  ]

  -- fields that stand for slots
  pub slots-are : (n : ℕ) (fields : List (List ℕ)) (slots : List Slot) → AllZip (StandsFor settings said) fields slots → slots_of settings said n fields ≡ Ok slots
  slots-are n [] [] h = refl
  slots-are n [] (s ∷ ss) h = absurd h
  slots-are n (f ∷ fs) [] h = absurd h
  slots-are n (f ∷ fs) (s ∷ ss) h =
      ap (λ o. with_slot o (field_fault n f) (slots_of settings said n fs)) (slot-is f s h.0) ∙ ap (then_ok (λ ss. Ok (s ∷ ss))) (slots-are n fs ss h.1)

  -- and one after them that stands for nothing
  slots-end : (n : ℕ) (good : List (List ℕ)) (slots : List Slot) (field : List ℕ) (later : List (List ℕ)) → AllZip (StandsFor settings said) good slots → slot_of settings said field ≡ None
      → slots_of settings said n (good ++ field ∷ later) ≡ Err (field_fault n field)
  slots-end n [] [] field later h none = ap (λ o. with_slot o (field_fault n field) (slots_of settings said n later)) none
  slots-end n [] (s ∷ ss) field later h none = absurd h
  slots-end n (f ∷ fs) [] field later h none = absurd h
  slots-end n (f ∷ fs) (s ∷ ss) field later h none =
      ap (λ o. with_slot o (field_fault n f) (slots_of settings said n (fs ++ field ∷ later))) (slot-is f s h.0) ∙ ap (then_ok (λ ss. Ok (s ∷ ss))) (slots-end n fs ss field later h.1 none)

  -- a number that is no state
  state-none : (field : List ℕ) → are_digits field ≡ true → settings.states ≤ value field → slot_of settings said field ≡ None
  state-none field d high =
      let test : nat_lt (value field) settings.states ≡ false = grind (arith, nat_tests) in
      ap (slot_if settings said field) d
      ∙ ap (λ b. some_if b (Number (value field))) test

  -- a name of no variable
  name-none : (field : List ℕ) → is_name field ≡ true → number_of 0 said.variables field ≡ None → slot_of settings said field ≡ None
  name-none field name none =
      ap (slot_if settings said field) (no-digits field name)
      ∙ ap (option_map Variable) none

-- ---- statements

-- the slots but the last, and the last
abbrev pub inputs_of : List Slot → List Slot
inputs_of [] = []
inputs_of (s ∷ []) = []
inputs_of (s ∷ t ∷ ss) = s ∷ inputs_of (t ∷ ss)

abbrev pub result_of : List Slot → Slot
result_of [] = Number 0
result_of (s ∷ []) = s
result_of (s ∷ t ∷ ss) = result_of (t ∷ ss)

inputs-are : (inputs : List Slot) (result : Slot) → inputs_of (inputs ++ result ∷ []) ≡ inputs
inputs-are [] result = refl
inputs-are (s ∷ []) result = refl
inputs-are (s ∷ t ∷ ss) result = ap (λ l. s ∷ l) (inputs-are (t ∷ ss) result)

result-is : (inputs : List Slot) (result : Slot) → result_of (inputs ++ result ∷ []) ≡ result
result-is [] result = refl
result-is (s ∷ []) result = refl
result-is (s ∷ t ∷ ss) result = result-is (t ∷ ss) result

-- one more transition is said
abbrev pub with_transition : SaidStatements → List Slot → Slot → SaidStatements
with_transition said inputs result = record said { transitions = said.transitions ++ record { inputs = inputs; result = result } ∷ [] }

abbrev said_if : SaidStatements → ℕ → List Slot → Slot → Bool → Result SaidStatements TableFault
said_if said n inputs result true = Ok (with_transition said inputs result)
said_if said n inputs result false = Err (faults.Unbound n)

abbrev bound_or_fault : SaidStatements → ℕ → List Slot → Slot → Result SaidStatements TableFault
bound_or_fault said n inputs result = said_if said n inputs result (is_bound result inputs)

abbrev step_with : Settings → SaidStatements → NumberedLine → Option (List ℕ × List (List ℕ)) → Option (List (List ℕ)) → Result SaidStatements TableFault
step_with settings said line (Some v) t = then_ok (λ slots. Ok (with_variable settings said v.0 slots)) (slots_of settings said line.0 v.1)
step_with settings said line None (Some fields) = then_ok (λ slots. bound_or_fault said line.0 (inputs_of slots) (result_of slots)) (slots_of settings said line.0 fields)
step_with settings said line None None = Err (faults.Syntax line.0)

-- what is said after the line, or its fault
abbrev pub step_of : Settings → SaidStatements → NumberedLine → Result SaidStatements TableFault
step_of settings said line = step_with settings said line (variable_of line) (transition_of (field_count settings) line)

none-of : {A : Type 0} (o : Option A) → ((x : A) → o ≡ Some x → ⊥) → o ≡ None
none-of None none = refl
none-of (Some x) none = absurd (none x refl)

transition-no-variable : (line : NumberedLine) (slots : ℕ) (fields : List (List ℕ)) → IsTransitionLine line slots fields → variable_of line ≡ None
transition-no-variable line slots fields t = none-of (variable_of line) (λ v e. true≢false (sym (variable-of-is line v e).begins ∙ t.no_variable))

module _ (settings : Settings) (said : SaidStatements) (line : NumberedLine) where
  at-variable : (name : List ℕ) (fields : List (List ℕ)) → IsVariableLine line name fields → step_of settings said line ≡ then_ok (λ slots. Ok (with_variable settings said name slots)) (slots_of settings said line.0 fields)
  at-variable name fields v = ap (λ o. step_with settings said line o (transition_of (field_count settings) line)) (variable-is-of line name fields v)

  at-transition : (fields : List (List ℕ)) → IsTransitionLine line (field_count settings) fields
      → step_of settings said line ≡ then_ok (λ slots. bound_or_fault said line.0 (inputs_of slots) (result_of slots)) (slots_of settings said line.0 fields)
  at-transition fields t =
      ap (λ o. step_with settings said line o (transition_of (field_count settings) line)) (transition-no-variable line (field_count settings) fields t)
      ∙ ap (step_with settings said line None) (transition-is-of line (field_count settings) fields t)

  -- the slots of a transition
  at-slots : (fields : List (List ℕ)) (inputs : List Slot) (result : Slot) → IsTransitionLine line (field_count settings) fields → AllZip (StandsFor settings said) fields (inputs ++ result ∷ [])
      → step_of settings said line ≡ bound_or_fault said line.0 inputs result
  at-slots fields inputs result t stand =
      at-transition fields t
      ∙ ap (then_ok (λ slots. bound_or_fault said line.0 (inputs_of slots) (result_of slots))) (slots-are settings said line.0 fields (inputs ++ result ∷ []) stand)
      ∙ ap (λ i. bound_or_fault said line.0 i (result_of (inputs ++ result ∷ []))) (inputs-are inputs result)
      ∙ ap (bound_or_fault said line.0 inputs) (result-is inputs result)

  -- the line says this
  abbrev pub Says : SaidStatements → Type 0
  Says after = SaysVariable settings said line after ⊎ SaysTransition settings said line after

  pub step-says : (after : SaidStatements) → Says after → step_of settings said line ≡ Ok after
  step-says after (inl v) =
      at-variable v.name v.fields v.spelled
      ∙ ap (then_ok (λ slots. Ok (with_variable settings said v.name slots))) (slots-are settings said line.0 v.fields v.slots v.stand)
      ∙ ap (λ a. Ok a) (sym v.after_is)
  step-says after (inr t) =
      at-slots t.fields t.inputs t.result t.spelled t.stand
      ∙ ap (said_if said line.0 t.inputs t.result) t.holds.0
      ∙ ap (λ a. Ok a) (sym t.holds.1)

  -- a line that says something is no setting, and begins no section
  pub says-no-setting : (after : SaidStatements) → Says after → is_setting line ≡ false
  says-no-setting after (inl v) = variable-no-setting line v.name v.fields v.spelled
  says-no-setting after (inr t) = transition-no-setting line (field_count settings) t.fields t.spelled

  pub says-no-section : (after : SaidStatements) → Says after → begins_section line ≡ false
  says-no-section after (inl v) = variable-no-section line v.name v.fields v.spelled
  says-no-section after (inr t) = transition-no-section line (field_count settings) t.fields t.spelled

  -- the faults of a line
  pub step-misspelled : IsMisspelled settings said line → step_of settings said line ≡ Err (faults.Syntax line.0)
  step-misspelled m =
      ap (λ o. step_with settings said line o (transition_of (field_count settings) line)) (none-of (variable_of line) (λ v e. m.0 v.0 v.1 (variable-of-is line v e)))
      ∙ ap (step_with settings said line None) (none-of (transition_of (field_count settings) line) (λ fields e. m.1 fields (transition-of-is line (field_count settings) fields e)))

  at-fields : (fields : List (List ℕ)) (f : TableFault) → HasFields settings line fields → slots_of settings said line.0 fields ≡ Err f → step_of settings said line ≡ Err f
  at-fields fields f (inl v) e = at-variable v.0 fields v.1 ∙ ap (then_ok (λ slots. Ok (with_variable settings said v.0 slots))) e
  at-fields fields f (inr t) e = at-transition fields t ∙ ap (then_ok (λ slots. bound_or_fault said line.0 (inputs_of slots) (result_of slots))) e

  pub step-bad-state : HasBadState settings said line → step_of settings said line ≡ Err (faults.States line.0)
  step-bad-state b =
      at-fields (b.good ++ b.field ∷ b.later) (field_fault line.0 b.field) b.spelled
      (slots-end settings said line.0 b.good b.slots b.field b.later b.stand (state-none settings said b.field b.holds.0 b.holds.1))
      ∙ ap (λ d. Err (fault_if line.0 d)) b.holds.0

  pub step-unknown-name : HasUnknownName settings said line → step_of settings said line ≡ Err (faults.Variable line.0)
  step-unknown-name b =
      at-fields (b.good ++ b.field ∷ b.later) (field_fault line.0 b.field) b.spelled
      (slots-end settings said line.0 b.good b.slots b.field b.later b.stand (name-none settings said b.field b.holds.0 b.holds.1))
      ∙ ap (λ d. Err (fault_if line.0 d)) (no-digits b.field b.holds.0)

  pub step-unbound : HasUnbound settings said line → step_of settings said line ≡ Err (faults.Unbound line.0)
  step-unbound u =
      at-slots u.fields u.inputs u.result u.spelled u.stand
      ∙ ap (said_if said line.0 u.inputs u.result) u.holds
