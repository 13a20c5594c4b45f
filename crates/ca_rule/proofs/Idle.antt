-- Where a slot admits none of the ring's cells, no order of the ring fits; and the ring in its own order is its first order.
use Rattle.std.proofs.Common.{◌≡◌, ◌<◌, ◌≤◌, ◌==◌, ℕ, zero, suc, List, [], ◌∷◌, ◌++◌, Bool, true, false, map, zip, drop, length, get_or, slice_index, refl, ap, sym, subst, ◌∙◌, Some, None, inl, inr, arith, bit_and}
use Rattle.std.specs.Prelude.{cond, flat_map}
use Rattle.std.specs.Int.{bit_at}
use Rattle.std.specs.List.{count_by}
use Rattle.std.proofs.lemmas.Bool.{cases_Bool, false≢true}
use Rattle.std.proofs.lemmas.Bool.Decides.{nat_tests}
use Rattle.ca_rule.specs.declared.table.{slot.Slot.Slot, neighbourhood.Neighbourhood.Neighbourhood}
use Rattle.ca_rule.specs.Prelude.{ring, ring_size, picks, every_order, States, Transition, admits, fits, result_state}
use Rattle.ca_rule.specs.inner.TablePlaces.{slots_admit, taken_at, outcome_at}
use Rattle.ca_rule.specs.inner.TransitionIndices.{first_inputs, takable, HasIdle, GivesNone}
use Rattle.ca_rule.proofs.PermutedLists.{Alike, count-cons, length-alike, orders-alike, each-more}
use Rattle.ca_rule.proofs.EqualPlaces.{none-of-unfit}
use Rattle.ca_rule.proofs.IndexedSlots.{each, unfit, other-bit}

-- one more cell that the slot doesn't admit
pub one-more : (variables : List States) (nine : List ℕ) (slots : List Slot) (place : ℕ) (places later : List ℕ) → places ≡ place ∷ later
    → slots_admit variables (slice_index nine place) slots ≡ false → takable variables nine slots later ≡ 0 → takable variables nine slots places ≡ 0
one-more variables nine slots place places later e none more =
    let zeros : cond {A = ℕ} (slots_admit variables (slice_index nine place) slots) 1 0 ≡ 0 = rw none refl in
    ap (takable variables nine slots) e ∙ omega (arith, zeros, more, count-cons (λ p. slots_admit variables (slice_index nine p) slots) place later)

-- where none passes, the j-th doesn't
none-counted : (q : ℕ → Bool) (xs : List ℕ) (j : ℕ) → count_by q xs ≡ 0 → j < length xs → q (get_or xs j 0) ≡ false
none-counted q [] j none within = absurd (omega arith)
none-counted q (x ∷ xs) zero none within =
    elim (cases_Bool (q x)) [
      | inl e ↦ let one : cond {A = ℕ} (q x) 1 0 ≡ 1 = rw e refl in absurd (omega (arith, one, none, count-cons q x xs))
      | inr e ↦ e
    ]
none-counted q (x ∷ xs) (suc j) none within = none-counted q xs j (omega (arith, none, count-cons q x xs)) (omega arith)

-- a slot that doesn't admit the cell at its place
idle-at : (variables : List States) (nine : List ℕ) (slots : List Slot) (j : ℕ) (g : List ℕ) → j < length g
    → slots_admit variables (slice_index nine (get_or g j 0)) (drop j slots) ≡ false → each variables (zip slots (map (slice_index nine) g)) ≡ false
idle-at variables nine slots j [] within none = absurd (omega arith)
idle-at variables nine [] zero (p ∷ g) within none = none
idle-at variables nine [] (suc j) (p ∷ g) within none = absurd (false≢true (sym none))
idle-at variables nine (s ∷ ss) zero (p ∷ g) within none = rw none refl
idle-at variables nine (s ∷ ss) (suc j) (p ∷ g) within none =
    elim (cases_Bool (admits variables s (slice_index nine p))) [
      | inr e ↦ rw e refl
      | inl e ↦ rw e (idle-at variables nine ss j g (omega arith) none)
    ]

-- the slots don't fit at an order of the ring's places
module _ (variables : List States) (nine : List ℕ) (t : Transition) (places : List ℕ) where
  unfit-behind : (i : ℕ) → 0 < i → i ≤ length places → takable variables nine (drop i t.inputs) places ≡ 0 → (g : List ℕ) → Alike places g
      → each variables (zip t.inputs (map (slice_index nine) (4 ∷ g))) ≡ false
  unfit-behind zero low high none g like = absurd (omega arith)
  unfit-behind (suc j) low high none g like =
      let q : ℕ → Bool = λ p. slots_admit variables (slice_index nine p) (drop (suc j) t.inputs) in
      let there : count_by q g ≡ 0 = sym (like.counts q) ∙ none in
      let within : j < length g = omega (arith, length-alike places g like) in
      idle-at variables nine t.inputs (suc j) (4 ∷ g) (omega arith) (none-counted q g j there within)

  idle-none : HasIdle variables nine t.inputs (length places) places → outcome_at variables nine t (map (λ g. (4 ∷ []) ++ g) (every_order (length places) places)) ≡ None
  idle-none h = none-of-unfit variables nine t (4 ∷ []) (every_order (length places) places)
      (each-more (λ g. Alike places g) (λ g. fits variables (zip t.inputs (map (slice_index nine) (4 ∷ g))) ≡ false)
      (λ g like. unfit variables (zip t.inputs (map (slice_index nine) (4 ∷ g))) (unfit-behind h.slot h.low h.high h.idle g like)) (every_order (length places) places) (orders-alike (length places) places refl))

pub idle-first : (variables : List States) (nine : List ℕ) (h : Neighbourhood) (most : ℕ) (places : List ℕ) (ts : List Transition) → most ≡ length places → places ≡ ring h
    → HasIdle variables nine (first_inputs ts) most places → GivesNone variables nine (map (λ g. (4 ∷ []) ++ g) (every_order (ring_size h) (ring h))) ts
idle-first variables nine h most places [] count same idle = refl
idle-first variables nine h most places (t ∷ ts) count same idle =
    let here : HasIdle variables nine t.inputs (length places) places = subst (λ n. HasIdle variables nine t.inputs n places) count idle in
    idle-none variables nine t (ring h) (subst (λ l. HasIdle variables nine t.inputs (length l) l) same here)

-- a bit of both numbers
pub either : (P : Type 0) (a b k : ℕ) → bit_at (bit_and a b) k ≡ 0 → (bit_at a k ≡ 0 → P) → (bit_at b k ≡ 0 → P) → P
either P a b k none first second = elim (cases_Bool (bit_at a k == 0)) [
  | inl z ↦ first (grind (arith, nat_tests))
  | inr z ↦ second (other-bit a b k none z)
]

-- the first order
as_it_stands : (n : ℕ) (xs : List ℕ) → length xs ≡ n → (others : List (List ℕ)) × (every_order n xs ≡ xs ∷ others)
as_it_stands zero [] e = ([], refl)
as_it_stands zero (x ∷ xs) e = absurd (omega arith)
as_it_stands (suc n) [] e = absurd (omega arith)
as_it_stands (suc n) (x ∷ xs) e =
    let first = as_it_stands n xs (omega arith) in
    let more = flat_map (λ (p : ℕ × List ℕ). map (λ g. p.0 ∷ g) (every_order n p.1)) (map (λ (p : ℕ × List ℕ). (p.0, x ∷ p.1)) (picks xs)) in
    (map (λ g. x ∷ g) first.0 ++ more, ap (λ l. map (λ g. x ∷ g) l ++ more) first.1)

pub stands-first : (variables : List States) (nine : List ℕ) (t : Transition) (h : Neighbourhood) (placement : List ℕ) → placement ≡ 4 ∷ ring h → fits variables (taken_at nine t placement) ≡ true
    → outcome_at variables nine t (map (λ g. (4 ∷ []) ++ g) (every_order (ring_size h) (ring h))) ≡ Some (result_state t.result (taken_at nine t placement))
stands-first variables nine t h placement same fit =
    let first = as_it_stands (ring_size h) (ring h) refl in
    let here : fits variables (taken_at nine t (4 ∷ ring h)) ≡ true = ap (λ p. fits variables (taken_at nine t p)) (sym same) ∙ fit in
    ap (λ gs. outcome_at variables nine t (map (λ g. (4 ∷ []) ++ g) gs)) first.1
    ∙ now (4 ∷ ring h) (map (λ g. (4 ∷ []) ++ g) first.0) here
    ∙ ap (λ p. Some (result_state t.result (taken_at nine t p))) (sym same)
  where
    now : (p : List ℕ) (ps : List (List ℕ)) → fits variables (taken_at nine t p) ≡ true → outcome_at variables nine t (p ∷ ps) ≡ Some (result_state t.result (taken_at nine t p))
    now p ps e = rw e refl
