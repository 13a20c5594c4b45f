-- Under a sound table, states below the count lead to states below it.
use Rattle.std.proofs.Common.{◌≡◌, ℕ, ◌<◌, ◌≤◌, List, [], ◌∷◌, map, zip, length, slice_index, true, refl, unwrap_or, arith, inl, inr, nat_lt, zero, suc}
use Rattle.std.specs.Prelude.{All}
use Rattle.std.specs.List.{list_all}
use Rattle.std.proofs.lemmas.Bool.{cases_Bool}
use Rattle.std.proofs.lemmas.Bool.Decides.{nat_tests}
use Rattle.ca_rule.specs.declared.table.{neighbourhood.Neighbourhood.Neighbourhood, slot.Slot.Slot}
use Rattle.ca_rule.specs.declared.table.slot.Slot.TheVariants.{Number, Variable}
use Rattle.ca_rule.specs.Prelude.{ring, orders, States, Transition, TableRule, cells_in_order, is_variable, fits, taken_cell, result_state, outcome, next_by, table_next}
use Rattle.ca_rule.specs.inner.TableStored.{is_below}

-- each cell of nine is below the count, and so is what follows them
module _ (count : ℕ) (nine : List ℕ) (some : 0 < count) (cells : (i : ℕ) → slice_index nine i < count) where
  cell_below : (v : ℕ) (slots : List Slot) (h : Neighbourhood) (positions : List ℕ) →
      taken_cell v (zip slots (map (λ position. slice_index nine (slice_index (ring h) position)) positions)) < count
  cell_below v [] h ps = some
  cell_below v (s ∷ ss) h [] = some
  cell_below v (s ∷ ss) h (p ∷ ps) =
      elim (cases_Bool (is_variable v s)) [
        | inl t ↦ rw t (cells (slice_index (ring h) p))
        | inr t ↦ rw t (cell_below v ss h ps)
      ]

  cell_of_below : (v : ℕ) (slots : List Slot) (h : Neighbourhood) (g : List ℕ) → taken_cell v (zip slots (cells_in_order h nine g)) < count
  cell_of_below v [] h g = some
  cell_of_below v (s ∷ ss) h g =
      elim (cases_Bool (is_variable v s)) [
        | inl t ↦ rw t (cells 4)
        | inr t ↦ rw t (cell_below v ss h g)
      ]

  given_below : (result : Slot) (slots : List Slot) (h : Neighbourhood) (g : List ℕ) → is_below count result ≡ true → result_state result (zip slots (cells_in_order h nine g)) < count
  given_below (Number state) slots h g below = grind (arith, nat_tests)
  given_below (Variable v) slots h g below = cell_of_below v slots h g

  outcome_below : (h : Neighbourhood) (variables : List States) (t : Transition) (gs : List (List ℕ)) → is_below count t.result ≡ true → (d : ℕ) → d < count → unwrap_or (outcome h variables nine t gs) d < count
  outcome_below h variables t [] below d small = small
  outcome_below h variables t (g ∷ gs) below d small =
      elim (cases_Bool (fits variables (zip t.inputs (cells_in_order h nine g)))) [
        | inl e ↦ rw e (given_below t.result t.inputs h g below)
        | inr e ↦ rw e (outcome_below h variables t gs below d small)
      ]

  next_below : (h : Neighbourhood) (variables : List States) (gs : List (List ℕ)) (ts : List Transition) → list_all (λ (t : Transition). is_below count t.result) ts ≡ true → next_by h variables gs nine ts < count
  next_below h variables gs [] all = cells 4
  next_below h variables gs (t ∷ ts) all =
      elim (cases_Bool (is_below count t.result)) [
        | inl e ↦ outcome_below h variables t gs e (next_by h variables gs nine ts) (next_below h variables gs ts (let k = rw e at all in k))
        | inr e ↦ let k = rw e at all in cc
      ]

-- an index past the end gives 0
index-past : (xs : List ℕ) (i : ℕ) → length xs ≤ i → slice_index xs i ≡ 0
index-past [] i h = refl
index-past (x ∷ xs) zero h = absurd (omega arith)
index-past (x ∷ xs) (suc i) h = index-past xs i (omega arith)

-- so where each result that is a number is below the count, states lead to states
pub closed : (table : TableRule) → 0 < table.states → list_all (λ (t : Transition). is_below table.states t.result) table.transitions ≡ true
    → (nine : List ℕ) → length nine ≡ 9 → All (λ s. s < table.states) nine → table_next table nine < table.states
closed table some results nine long all =
    next_below table.states nine some (λ i.
    elim (cases_Bool (nat_lt i (length nine))) [
      | inl t ↦ all i 0 (grind (arith, nat_tests))
      | inr t ↦ let past = index-past nine i (grind (arith, nat_tests)) in omega arith
    ]) table.neighbourhood table.variables (orders table.neighbourhood table.symmetry) table.transitions results
