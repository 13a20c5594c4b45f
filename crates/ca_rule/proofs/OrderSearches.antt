-- Orders tried slot by slot lead to the first of all orders that fits.
use Rattle.std.proofs.Common.{◌≡◌, ℕ, zero, suc, ◌+◌, ◌<◌, ◌≤◌, List, [], ◌∷◌, ◌++◌, map, zip, length, drop, Bool, false, not, ◌&&◌, ◌||◌, ◌==◌, slice_index, refl, ap, sym, ◌∙◌, None, arith, inl, inr, append_assoc}
use Rattle.std.specs.Prelude.{flat_map, remove, get_or}
use Rattle.std.specs.List.{list_all}
use Rattle.std.specs.Option.{option_or}
use Rattle.std.proofs.lemmas.Bool.{cases_Bool}
use Rattle.std.proofs.lemmas.List.{map-append, drop-map, length-map}
use Rattle.std.proofs.lemmas.List.Folds.{list_all-append}
use Rattle.ca_rule.specs.declared.table.slot.Slot.{Slot}
use Rattle.ca_rule.specs.declared.table.slot.Slot.TheVariants.{Number, Variable}
use Rattle.ca_rule.specs.Prelude.{picks, every_order, States, Transition, SlotCell, admits, is_variable, take_one_cell, fits}
use Rattle.ca_rule.specs.inner.TablePlaces.{taken_at, outcome_at}
use Rattle.ca_rule.specs.inner.TableSearch.{least_outcome, picked_outcome}

-- the first of two rows of placements decides, and else the second
module _ (variables : List States) (nine : List ℕ) (t : Transition) where
  outcome_at-append : (ps qs : List (List ℕ)) → outcome_at variables nine t (ps ++ qs) ≡ option_or (outcome_at variables nine t ps) (outcome_at variables nine t qs)
  outcome_at-append [] qs = refl
  outcome_at-append (p ∷ ps) qs =
      elim (cases_Bool (fits variables (taken_at nine t p))) [
        | inl e ↦ rw e refl
        | inr e ↦ rw e (outcome_at-append ps qs)
      ]

  -- an order after a place, and the place after those taken
  tail_after : (taken : List ℕ) (x : ℕ) (gs : List (List ℕ)) → map (λ g. taken ++ g) (map (λ g. x ∷ g) gs) ≡ map (λ g. (taken ++ x ∷ []) ++ g) gs
  tail_after taken x [] = refl
  tail_after taken x (g ∷ gs) = ap (λ l. (taken ++ x ∷ g) ∷ l) (tail_after taken x gs) ∙ ap (λ l. l ∷ map (λ h. (taken ++ x ∷ []) ++ h) gs) (sym (append_assoc taken (x ∷ []) g))

  picked : (taken : List ℕ) (n : ℕ) (ps : List (ℕ × List ℕ)) →
      outcome_at variables nine t (map (λ g. taken ++ g) (flat_map (λ p. map (λ g. p.0 ∷ g) (every_order n p.1)) ps)) ≡ picked_outcome variables nine t taken n ps
  picked taken n [] = refl
  picked taken n (p ∷ ps) =
      ap (outcome_at variables nine t) (map-append (λ g. taken ++ g) (map (λ g. p.0 ∷ g) (every_order n p.1)) (flat_map (λ q. map (λ g. q.0 ∷ g) (every_order n q.1)) ps))
      ∙ outcome_at-append (map (λ g. taken ++ g) (map (λ g. p.0 ∷ g) (every_order n p.1))) (map (λ g. taken ++ g) (flat_map (λ q. map (λ g. q.0 ∷ g) (every_order n q.1)) ps))
      ∙ ap (λ o. option_or o (outcome_at variables nine t (map (λ g. taken ++ g) (flat_map (λ q. map (λ g. q.0 ∷ g) (every_order n q.1)) ps)))) (ap (outcome_at variables nine t) (tail_after taken p.0 (every_order n p.1)))
      ∙ ap (λ o. option_or (least_outcome variables nine t (taken ++ p.0 ∷ []) n p.1) o) (picked taken n ps)

  -- the next slot takes one of the free places
  pub least_outcome-picks : (taken : List ℕ) (n : ℕ) (free : List ℕ) → least_outcome variables nine t taken (suc n) free ≡ picked_outcome variables nine t taken n (picks free)
  least_outcome-picks taken n free = picked taken n (picks free)

-- where one slot of a variable takes another cell, it does so among more slots too
list_all-front : {X : Type 0} (p : X → Bool) (xs ys : List X) → list_all p xs ≡ false → list_all p (xs ++ ys) ≡ false
list_all-front p xs ys e = list_all-append p xs ys ∙ rw e refl

pub take_one_cell-front : (xs ys : List SlotCell) (s : Slot) (c : ℕ) → take_one_cell xs s c ≡ false → take_one_cell (xs ++ ys) s c ≡ false
take_one_cell-front xs ys (Number n) c e = cc
take_one_cell-front xs ys (Variable v) c e = list_all-front (λ (t : SlotCell). not (is_variable v t.0) || (t.1 == c)) xs ys e

-- slots that don't fit by themselves don't fit among more
each-front : (variables : List States) (all more rest : List SlotCell) → list_all (λ (t : SlotCell). admits variables t.0 t.1 && take_one_cell all t.0 t.1) rest ≡ false
    → list_all (λ (t : SlotCell). admits variables t.0 t.1 && take_one_cell (all ++ more) t.0 t.1) (rest ++ more) ≡ false
each-front variables all more [] e = cc
each-front variables all more (r ∷ rs) e =
    elim (cases_Bool (admits variables r.0 r.1)) [
      | inr a ↦ rw a refl
      | inl a ↦ elim (cases_Bool (take_one_cell all r.0 r.1)) [
        | inr o ↦ rw (a, take_one_cell-front all more r.0 r.1 o) refl
        | inl o ↦ let k = rw (a, o) at e in elim (cases_Bool (take_one_cell (all ++ more) r.0 r.1)) [
          | inl w ↦ rw (a, w) (each-front variables all more rs k)
          | inr w ↦ rw (a, w) refl
        ]
      ]
    ]

fits-front : (variables : List States) (xs ys : List SlotCell) → fits variables xs ≡ false → fits variables (xs ++ ys) ≡ false
fits-front variables xs ys e = each-front variables xs ys xs e

-- the cells at some places and at others
map_at : (nine xs ys : List ℕ) → map (slice_index nine) (xs ++ ys) ≡ map (slice_index nine) xs ++ map (slice_index nine) ys
map_at nine xs ys = map-append (slice_index nine) xs ys

pub zip-append : (slots : List Slot) (xs ys : List ℕ) → zip slots (xs ++ ys) ≡ zip slots xs ++ zip (drop (length xs) slots) ys
zip-append [] [] ys = refl
zip-append [] (x ∷ xs) ys = refl
zip-append (s ∷ ss) [] ys = refl
zip-append (s ∷ ss) (x ∷ xs) ys = ap (λ l. (s, x) ∷ l) (zip-append ss xs ys)

-- where slots don't fit at the places that they have taken, no order of the others helps
module _ (variables : List States) (nine : List ℕ) (t : Transition) (taken : List ℕ) (none : fits variables (taken_at nine t taken) ≡ false) where
  unfit : (g : List ℕ) → fits variables (taken_at nine t (taken ++ g)) ≡ false
  unfit g =
      ap (λ cells. fits variables (zip t.inputs cells)) (map_at nine taken g)
      ∙ ap (fits variables) (zip-append t.inputs (map (slice_index nine) taken) (map (slice_index nine) g))
      ∙ fits-front variables (taken_at nine t taken) (zip (drop (length (map (slice_index nine) taken)) t.inputs) (map (slice_index nine) g)) none

  pub least_outcome-unfit : (gs : List (List ℕ)) → outcome_at variables nine t (map (λ g. taken ++ g) gs) ≡ None
  least_outcome-unfit [] = refl
  least_outcome-unfit (g ∷ gs) = rw (unfit g) (least_outcome-unfit gs)

-- where a test says that they don't fit
pub test-unfit : (variables : List States) (nine : List ℕ) (t : Transition) (taken : List ℕ) → false ≡ fits variables (taken_at nine t taken)
    → (gs : List (List ℕ)) → outcome_at variables nine t (map (λ g. taken ++ g) gs) ≡ None
test-unfit variables nine t taken none = least_outcome-unfit variables nine t taken (sym none)

-- a list has as many picks as elements
pub length-picks : (xs : List ℕ) → length (picks xs) ≡ length xs
length-picks [] = refl
length-picks (x ∷ xs) = ap suc (length-map (picks xs) (λ (p : ℕ × List ℕ). (p.0, x ∷ p.1)) ∙ length-picks xs)

-- the picks from one place onwards
pub drop-picks : (xs : List ℕ) (i : ℕ) → i < length xs → drop i (picks xs) ≡ (get_or xs i 0, remove xs i) ∷ drop (suc i) (picks xs)
drop-picks [] i h = absurd (omega arith)
drop-picks (x ∷ xs) zero h = refl
drop-picks (x ∷ xs) (suc i) h =
    drop-map (λ (p : ℕ × List ℕ). (p.0, x ∷ p.1)) i (picks xs)
    ∙ ap (map (λ (p : ℕ × List ℕ). (p.0, x ∷ p.1))) (drop-picks xs i (omega arith))
    ∙ ap (λ l. (get_or xs i 0, x ∷ remove xs i) ∷ l) (sym (drop-map (λ (p : ℕ × List ℕ). (p.0, x ∷ p.1)) (suc i) (picks xs)))

-- without one of its elements a list is shorter by one
length-remove : (xs : List ℕ) (i : ℕ) → i < length xs → suc (length (remove xs i)) ≡ length xs
length-remove [] i h = absurd (omega arith)
length-remove (x ∷ xs) zero h = refl
length-remove (x ∷ xs) (suc i) h = ap suc (length-remove xs i (omega arith))

-- nothing is left after the end
drop-end : (ps : List (ℕ × List ℕ)) (i : ℕ) → length ps ≤ i → drop i ps ≡ []
drop-end [] zero h = refl
drop-end [] (suc i) h = refl
drop-end (p ∷ ps) zero h = absurd (omega arith)
drop-end (p ∷ ps) (suc i) h = drop-end ps i (omega arith)

module _ (variables : List States) (nine : List ℕ) (t : Transition) (taken free : List ℕ) (m : ℕ) (count : length free ≡ suc m) where
  -- at the beginning all picks are left
  pub all-picks : least_outcome variables nine t taken (length free) free ≡ picked_outcome variables nine t taken m (picks free)
  all-picks = ap (λ n. least_outcome variables nine t taken n free) count ∙ least_outcome-picks variables nine t taken m free

  -- one pick leads to an outcome, or else those after it
  pub one-pick : (at : ℕ) (more others : List ℕ) → at < length free → more ≡ taken ++ get_or free at 0 ∷ [] → others ≡ remove free at →
      picked_outcome variables nine t taken m (drop at (picks free))
      ≡ option_or (least_outcome variables nine t more (length others) others) (picked_outcome variables nine t taken m (drop (at + 1) (picks free)))
  one-pick at more others h e f =
      let fewer : m ≡ length others = omega (arith, length-remove free at h, ap (length {A = ℕ}) f) in
      let next : suc at ≡ at + 1 = omega arith in
      ap (picked_outcome variables nine t taken m) (drop-picks free at h)
      ∙ ap (λ n. option_or (least_outcome variables nine t (taken ++ get_or free at 0 ∷ []) m (remove free at)) (picked_outcome variables nine t taken m (drop n (picks free)))) next
      ∙ ap (λ l. option_or (least_outcome variables nine t l m (remove free at)) (picked_outcome variables nine t taken m (drop (at + 1) (picks free)))) (sym e)
      ∙ ap (λ l. option_or (least_outcome variables nine t more m l) (picked_outcome variables nine t taken m (drop (at + 1) (picks free)))) (sym f)
      ∙ ap (λ n. option_or (least_outcome variables nine t more n others) (picked_outcome variables nine t taken m (drop (at + 1) (picks free)))) fewer

  -- there is none after the last pick
  pub no-pick : (at : ℕ) → length free ≤ at → picked_outcome variables nine t taken m (drop at (picks free)) ≡ None
  no-pick at h = ap (picked_outcome variables nine t taken m) (drop-end (picks free) at (omega (arith, length-picks free)))
