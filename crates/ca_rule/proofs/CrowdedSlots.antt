-- Where slots are too many for the cells that they may take, no order fits.
use Rattle.std.proofs.Common.{◌≡◌, ℕ, ◌%◌, ◌/◌, ◌<◌, ◌≤◌, List, [], ◌∷◌, ◌++◌, map, zip, length, drop, Bool, true, false, not, ◌==◌, ◌&&◌, ◌||◌, slice_index, refl, ap, sym, ◌∙◌, subst, None, arith, inl, inr}
use Rattle.std.specs.Prelude.{cond}
use Rattle.std.specs.List.{count_by, list_all}
use Rattle.std.proofs.lemmas.Bool.{cases_Bool, and_parts, or_right}
use Rattle.std.proofs.lemmas.Bool.Decides.{nat_tests}
use Rattle.std.proofs.lemmas.List.{length-map}
use Rattle.std.proofs.lemmas.List.Folds.{list_all-append}
use Rattle.ca_rule.specs.declared.table.slot.Slot.{Slot}
use Rattle.ca_rule.specs.Prelude.{every_order, States, Transition, SlotCell, admits, is_variable, take_one_cell, fits}
use Rattle.ca_rule.specs.declared.table.slot.Slot.TheVariants.{Number, Variable}
use Rattle.std.proofs.lemmas.List.Sums.{sum_by-cons}
use Rattle.ca_rule.specs.inner.TablePlaces.{taken_at}
use Rattle.ca_rule.specs.inner.TableSearch.{least_outcome}
use Rattle.ca_rule.specs.inner.TableCrowd.{has_slot_room, may_take, one_takes, slots_in, are_crowded, HasCrowd}
use Rattle.ca_rule.proofs.OrderSearches.{zip-append, take_one_cell-front}
use Rattle.ca_rule.proofs.PermutedLists.{Alike, count-cons, length-alike, orders-alike, each-more}
use Rattle.ca_rule.proofs.EqualPlaces.{counted, none-of-unfit}

all-back : (p : SlotCell → Bool) (xs ys : List SlotCell) → list_all p (xs ++ ys) ≡ true → list_all p ys ≡ true
all-back p xs ys e = (and_parts (list_all p xs) (list_all p ys) (sym (list_all-append p xs ys) ∙ e)).1

-- the slots of a variable have a cell each, where they all take that cell
like-cells : (v c : ℕ) (ss : List Slot) (cells : List ℕ) → length ss ≤ length cells
    → list_all (λ (t : SlotCell). not (is_variable v t.0) || (t.1 == c)) (zip ss cells) ≡ true → count_by (is_variable v) ss ≤ count_by (λ d. d == c) cells
like-cells v c [] cells long e = omega arith
like-cells v c (s ∷ ss) [] long e = absurd (omega arith)
like-cells v c (s ∷ ss) (d ∷ cells) long e =
    elim (cases_Bool (is_variable v s)) [
      | inr h ↦ let none : cond {A = ℕ} (is_variable v s) 1 0 ≡ 0 = rw h refl in
          let later = like-cells v c ss cells (omega arith) (rw h at e) in
          omega (arith, later, none, count-cons (λ x. x == c) d cells, sum_by-cons (λ x. cond {A = ℕ} (is_variable v x) 1 0) s ss)
      | inl h ↦ elim (cases_Bool (d == c)) [
        | inr k ↦ let no = rw (h, k) at e in cc
        | inl k ↦ let one : cond {A = ℕ} (is_variable v s) 1 0 ≡ 1 = rw h refl in
            let same : cond {A = ℕ} (d == c) 1 0 ≡ 1 = rw k refl in
            let later = like-cells v c ss cells (omega arith) (rw (h, k) at e) in
            omega (arith, later, one, same, count-cons (λ x. x == c) d cells, sum_by-cons (λ x. cond {A = ℕ} (is_variable v x) 1 0) s ss)
      ]
    ]

module _ (variables : List States) (nine : List ℕ) (left : List Slot) (free : List ℕ) where
  -- where slots take their cells among more, there is room for each
  room : (taken : List SlotCell) (g : List ℕ) → length left ≤ length g → Alike free g → (s : Slot) (c : ℕ)
      → take_one_cell (taken ++ zip left (map (slice_index nine) g)) s c ≡ true → has_slot_room nine left free s c ≡ true
  room taken g long like (Number n) c e = refl
  room taken g long like (Variable v) c e =
      let all = all-back (λ (t : SlotCell). not (is_variable v t.0) || (t.1 == c)) taken (zip left (map (slice_index nine) g)) e in
      let few = like-cells v c left (map (slice_index nine) g) (omega (arith, length-map g (slice_index nine))) all in
      let enough_of : count_by (is_variable v) left ≤ count_by (λ p. slice_index nine p == c) free =
      omega (arith, few, counted nine (λ d. d == c) g, like.counts (λ p. slice_index nine p == c)) in
      grind (arith, nat_tests)

  -- in slots that fit, each may take its cell beside the first of them
  each-may : (taken more rest : List SlotCell) → ((s : Slot) (c : ℕ) → take_one_cell (taken ++ more) s c ≡ true → has_slot_room nine left free s c ≡ true)
      → list_all (λ (t : SlotCell). admits variables t.0 t.1 && take_one_cell (taken ++ more) t.0 t.1) rest ≡ true
      → list_all (λ (t : SlotCell). may_take variables nine taken left free t.0 t.1) rest ≡ true
  each-may taken more [] wide e = refl
  each-may taken more (r ∷ rs) wide e =
      elim (cases_Bool (admits variables r.0 r.1)) [
        | inr a ↦ let k = rw a at e in cc
        | inl a ↦ elim (cases_Bool (take_one_cell taken r.0 r.1)) [
          | inr o ↦ let k = rw (a, take_one_cell-front taken more r.0 r.1 o) at e in cc
          | inl o ↦ elim (cases_Bool (take_one_cell (taken ++ more) r.0 r.1)) [
            | inr w ↦ let k = rw (a, w) at e in cc
            | inl w ↦ rw (a, o, wide r.0 r.1 w) (each-may taken more rs wide (rw (a, w) at e))
          ]
        ]
      ]

  -- slots that take their cells have as many cells as they are
  enough : (taken : List SlotCell) (ss : List Slot) (cells : List ℕ) (set : ℕ) (q : ℕ → Bool) → length ss ≤ length cells
      → list_all (λ (t : SlotCell). may_take variables nine taken left free t.0 t.1) (zip ss cells) ≡ true → ((c : ℕ) → one_takes variables nine taken left free ss set c ≡ true → q c ≡ true)
      → slots_in ss set ≤ count_by q cells
  enough taken [] cells set q long may into = omega arith
  enough taken (s ∷ ss) [] set q long may into = absurd (omega arith)
  enough taken (s ∷ ss) (c ∷ cells) set q long may into =
      let here : may_take variables nine taken left free s c ≡ true = elim (cases_Bool (may_take variables nine taken left free s c)) [
        | inl h ↦ h
        | inr h ↦ let k = rw h at may in cc
      ] in
      let later : list_all (λ (t : SlotCell). may_take variables nine taken left free t.0 t.1) (zip ss cells) ≡ true = rw here at may in
      let rest = enough taken ss cells (set / 2) q (omega arith) later (λ d e. into d (or_right (set % 2 == 1 && may_take variables nine taken left free s d) _ e)) in
      elim (cases_Bool (set % 2 == 1)) [
        | inl e ↦ let one : q c ≡ true = into c (rw (e, here) refl) in
            let counts : cond {A = ℕ} (q c) 1 0 ≡ 1 = rw one refl in
            let bit : set % 2 ≡ 1 = grind (arith, nat_tests) in
            omega (arith, rest, bit, counts, count-cons q c cells)
        | inr e ↦ let bit : set % 2 ≡ 0 = grind (arith, nat_tests) in omega (arith, rest, bit, count-cons q c cells)
      ]

-- no order of the free places fits
module _ (variables : List States) (nine : List ℕ) (t : Transition) (taken free : List ℕ) where
  none-crowded : (set : ℕ) (slots : List Slot) → slots ≡ drop (length taken) t.inputs → length slots ≤ length free
      → are_crowded variables nine (taken_at nine t taken) slots free set ≡ true → least_outcome variables nine t taken (length free) free ≡ None
  none-crowded set slots left long crowded =
      let f = slice_index nine in
      let all = taken_at nine t taken in
      let takes = one_takes variables nine all slots free slots set in
      let few : count_by (λ p. takes (f p)) free < slots_in slots set = grind (arith, nat_tests) in
      let one : (g : List ℕ) → Alike free g → fits variables (zip t.inputs (map f taken ++ map f g)) ≡ false = λ g like.
      elim (cases_Bool (fits variables (zip t.inputs (map f taken ++ map f g)))) [
        | inr h ↦ h
        | inl h ↦
            let more = zip slots (map f g) in
            let split : zip t.inputs (map f taken ++ map f g) ≡ all ++ more =
            zip-append t.inputs (map f taken) (map f g) ∙ ap (λ n. zip t.inputs (map f taken) ++ zip (drop n t.inputs) (map f g)) (length-map taken f)
            ∙ ap (λ l. zip t.inputs (map f taken) ++ zip l (map f g)) (sym left) in
            let wide : length slots ≤ length g = omega (arith, length-alike free g like) in
            let may = all-back (λ (p : SlotCell). may_take variables nine all slots free p.0 p.1) all more
            (each-may variables nine slots free all more (all ++ more) (room variables nine slots free all g wide like) (subst (λ l. fits variables l ≡ true) split h)) in
            let some = enough variables nine slots free all slots (map f g) set takes (omega (arith, wide, length-map g f)) may (λ c e. e) in
            absurd (omega (arith, some, few, counted nine takes g, like.counts (λ p. takes (f p))))
      ] in
      none-of-unfit variables nine t taken (every_order (length free) free)
      (each-more (λ g. Alike free g) (λ g. fits variables (zip t.inputs (map f taken ++ map f g)) ≡ false) one (every_order (length free) free) (orders-alike (length free) free refl))

  -- so it is with slots and places as they are read
  pub none-fits : (slots : List Slot) (places others : List ℕ) → slots ≡ t.inputs → places ≡ taken → others ≡ free → HasCrowd variables nine slots places others
      → least_outcome variables nine t taken (length free) free ≡ None
  none-fits slots places others e f g h =
      let same = subst (λ l. HasCrowd variables nine t.inputs taken l) g (subst (λ l. HasCrowd variables nine t.inputs l others) f (subst (λ l. HasCrowd variables nine l places others) e h)) in
      none-crowded same.set (drop (length taken) t.inputs) refl same.few same.crowded
