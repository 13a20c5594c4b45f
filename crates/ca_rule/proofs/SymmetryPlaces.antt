-- What a table gives by the orders of its symmetry, and by the places to which they lead.
use Rattle.std.proofs.Common.{◌≡◌, ◌≢◌, ℕ, List, [], ◌∷◌, map, zip, slice_index, refl, ap, ◌∙◌, Some, None, unwrap_or, true, false, inl, inr, arith}
use Rattle.std.specs.List.{list_all}
use Rattle.std.proofs.lemmas.Bool.{cases_Bool}
use Rattle.std.proofs.lemmas.Bool.Decides.{nat_tests}
use Rattle.ca_rule.specs.declared.table.{slot.Slot.Slot, neighbourhood.Neighbourhood.Neighbourhood, neighbourhood.Symmetry.Symmetry}
use Rattle.ca_rule.specs.declared.table.neighbourhood.Symmetry.TheVariants.{Identity, Rotate4, Rotate4Reflect, ReflectHorizontal, Rotate8, Rotate8Reflect, Rotate2, Rotate3, Rotate6, Rotate6Reflect, Reflect, Permute}
use Rattle.std.specs.Prelude.{if◌then◌else◌}
use Rattle.ca_rule.specs.Prelude.{places, ring, orders, States, Transition, admits, cells_in_order, fits, result_state, outcome, next_by, table_next, two_may_fit, orders_may_fit}
use Rattle.ca_rule.specs.inner.TableStored.{stored_table}
use Rattle.ca_rule.specs.inner.TablePlaces.{begins_at_centre, slots_admit, admits_centre, outcome_at, next_at}

-- the cells at the places of an order's positions
cells-at : (h : Neighbourhood) (nine order : List ℕ) → map (slice_index nine) (map (slice_index (ring h)) order) ≡ map (λ position. slice_index nine (slice_index (ring h) position)) order
cells-at h nine [] = refl
cells-at h nine (p ∷ ps) = ap (λ l. slice_index nine (slice_index (ring h) p) ∷ l) (cells-at h nine ps)

pub arranged-at : (h : Neighbourhood) (nine order : List ℕ) → map (slice_index nine) (places h order) ≡ cells_in_order h nine order
arranged-at h nine order = ap (λ l. slice_index nine 4 ∷ l) (cells-at h nine order)

outcome-at : (h : Neighbourhood) (variables : List States) (nine : List ℕ) (t : Transition) (gs : List (List ℕ)) → outcome_at variables nine t (map (places h) gs) ≡ outcome h variables nine t gs
outcome-at h variables nine t [] = refl
outcome-at h variables nine t (g ∷ gs) =
    ap (λ cells. if fits variables (zip t.inputs cells) then Some (result_state t.result (zip t.inputs cells)) else outcome_at variables nine t (map (places h) gs)) (arranged-at h nine g)
    ∙ ap (λ o. if fits variables (zip t.inputs (cells_in_order h nine g)) then Some (result_state t.result (zip t.inputs (cells_in_order h nine g))) else o) (outcome-at h variables nine t gs)

-- the next state is the same by either
pub next-at : (h : Neighbourhood) (variables : List States) (gs : List (List ℕ)) (nine : List ℕ) (ts : List Transition) → next_at variables (map (places h) gs) nine ts ≡ next_by h variables gs nine ts
next-at h variables gs nine [] = refl
next-at h variables gs nine (t ∷ ts) =
    ap (λ o. unwrap_or o (next_at variables (map (places h) gs) nine ts)) (outcome-at h variables nine t gs)
    ∙ ap (λ n. unwrap_or (outcome h variables nine t gs) n) (next-at h variables gs nine ts)

-- so it is where the places are those of the orders of the table's symmetry
pub stored-next : (named : List ℕ) (count : ℕ) (h : Neighbourhood) (s : Symmetry) (sets : List States) (ts : List Transition) (nine : List ℕ) (placed : List (List ℕ)) →
    placed ≡ map (places h) (orders h s) → next_at sets placed nine ts ≡ table_next (stored_table named count h s sets ts) nine
stored-next named count h s sets ts nine placed e = ap (λ ps. next_at sets ps nine ts) e ∙ next-at h sets (orders h s) nine ts

-- a transition whose first slot doesn't admit the centre fits at none of them
pub outcome-uncentred : (variables : List States) (nine : List ℕ) (t : Transition) (ps : List (List ℕ)) → list_all begins_at_centre ps ≡ true
    → admits_centre variables nine t ≡ false → outcome_at variables nine t ps ≡ None
outcome-uncentred variables nine t [] all not_here = refl
outcome-uncentred variables nine t (p ∷ ps) all not_here =
    elim (cases_Bool (begins_at_centre p)) [
      | inr e ↦ let k = rw e at all in cc
      | inl e ↦ rw (unfit variables nine t.inputs p e not_here) (outcome-uncentred variables nine t ps (rw e at all) not_here)
    ]
  where
    unfit : (variables : List States) (nine : List ℕ) (slots : List Slot) (p : List ℕ) → begins_at_centre p ≡ true → slots_admit variables (slice_index nine 4) slots ≡ false
        → fits variables (zip slots (map (slice_index nine) p)) ≡ false
    unfit variables nine [] p e none = cc
    unfit variables nine (s ∷ ss) [] e none = cc
    unfit variables nine (s ∷ ss) (q ∷ qs) e none =
        let same : q ≡ 4 = grind (arith, nat_tests) in
        let here : admits variables s (slice_index nine q) ≡ false = ap (λ k. admits variables s (slice_index nine k)) same ∙ none in
        rw here refl

-- under each symmetry but one, slots may fit under two orders where they may at the places to which two lead
pub fit-unpermuted : (states : ℕ) (variables : List States) (h : Neighbourhood) (s : Symmetry) (v : ℕ) (slots : List Slot) → s ≢ Permute
    → orders_may_fit states variables h s v slots ≡ two_may_fit states variables v slots (map (places h) (orders h s))
fit-unpermuted states variables h Permute v slots other = absurd (other refl)
fit-unpermuted states variables h Identity v slots other = refl
fit-unpermuted states variables h Rotate4 v slots other = refl
fit-unpermuted states variables h Rotate4Reflect v slots other = refl
fit-unpermuted states variables h ReflectHorizontal v slots other = refl
fit-unpermuted states variables h Rotate8 v slots other = refl
fit-unpermuted states variables h Rotate8Reflect v slots other = refl
fit-unpermuted states variables h Rotate2 v slots other = refl
fit-unpermuted states variables h Rotate3 v slots other = refl
fit-unpermuted states variables h Rotate6 v slots other = refl
fit-unpermuted states variables h Rotate6Reflect v slots other = refl
fit-unpermuted states variables h Reflect v slots other = refl
