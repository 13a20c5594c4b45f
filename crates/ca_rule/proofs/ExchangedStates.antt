-- A variable that has one state under one order and another under another exchanges both for those of other slots.
use Rattle.std.proofs.Common.{◌≡◌, ℕ, zero, suc, ◌+◌, ◌-◌, ◌<◌, ◌≤◌, ◌≢◌, List, [], ◌∷◌, length, zip, Bool, true, false, not, ◌&&◌, ◌||◌, ◌==◌, nat_le, refl, sym, ap, ◌∙◌, subst, arith, inl, inr}
use Rattle.std.specs.Prelude.{cond}
use Rattle.std.specs.List.{AllByRecursion, list_all, list_any, count_by, range_with_len}
use Rattle.std.proofs.lemmas.List.Sums.{sum_by-cons}
use Rattle.std.proofs.lemmas.Bool.{cases_Bool, and_parts, false≢true}
use Rattle.std.proofs.lemmas.Bool.Decides.{nat_tests}
use Rattle.ca_rule.specs.declared.table.slot.Slot.{Slot}
use Rattle.ca_rule.specs.declared.table.slot.Slot.TheVariants.{Number, Variable}
use Rattle.ca_rule.specs.Prelude.{States, SlotCell, admits, is_variable, take_one_cell, taken_cell, may_take_over}

module _ {X : Type 0} (p : X → Bool) where
  count-more : (x : X) (xs : List X) → count_by p (x ∷ xs) ≡ cond (p x) 1 0 + count_by p xs
  count-more x xs = sum_by-cons (λ y. cond (p y) 1 0) x xs

  count-yes : (x : X) (xs : List X) → p x ≡ true → count_by p (x ∷ xs) ≡ 1 + count_by p xs
  count-yes x xs e = count-more x xs ∙ ap (λ b. cond {A = ℕ} b 1 0 + count_by p xs) e

  count-no : (x : X) (xs : List X) → p x ≡ false → count_by p (x ∷ xs) ≡ 0 + count_by p xs
  count-no x xs e = count-more x xs ∙ ap (λ b. cond {A = ℕ} b 1 0 + count_by p xs) e

-- the first number of those that are left, and the others
left-more : (a m : ℕ) → a < m → m - a ≡ suc (m - (a + 1))
left-more a m low = omega arith

pub any-left : (f : ℕ → Bool) (a m : ℕ) → a < m → list_any f (range_with_len a (m - a)) ≡ (f a || list_any f (range_with_len (a + 1) (m - (a + 1))))
any-left f a m low = ap (λ n. list_any f (range_with_len a n)) (left-more a m low)

pub count-left : (f : ℕ → Bool) (a m : ℕ) → a < m → count_by f (range_with_len a (m - a)) ≡ cond (f a) 1 0 + count_by f (range_with_len (a + 1) (m - (a + 1)))
count-left f a m low = ap (λ n. count_by f (range_with_len a n)) (left-more a m low) ∙ count-more f a (range_with_len (a + 1) (m - (a + 1)))

-- a number of a range that passes
pub any-range : (f : ℕ → Bool) (z a n : ℕ) → a ≤ z → z < a + n → f z ≡ true → list_any f (range_with_len a n) ≡ true
any-range f z a zero low high e = absurd (omega arith)
any-range f z a (suc n) low high e =
    elim (cases_Bool (f a)) [
      | inl h ↦ rw h refl
      | inr h ↦ elim (cases_Bool (a == z)) [
        | inl t ↦ let same : a ≡ z = grind (arith, nat_tests) in absurd (false≢true (sym h ∙ ap f same ∙ e))
        | inr t ↦ let other : a + 1 ≤ z = grind (arith, nat_tests) in rw h (any-range f z (a + 1) n other (omega arith) e)
      ]
    ]

count-one : (f : ℕ → Bool) (z a n : ℕ) → a ≤ z → z < a + n → f z ≡ true → 1 ≤ count_by f (range_with_len a n)
count-one f z a zero low high e = absurd (omega arith)
count-one f z a (suc n) low high e =
    elim (cases_Bool (a == z)) [
      | inl t ↦ let same : a ≡ z = grind (arith, nat_tests) in omega (arith, count-yes f a (range_with_len (a + 1) n) (ap f same ∙ e))
      | inr t ↦ let other : a + 1 ≤ z = grind (arith, nat_tests) in omega (arith, count-more f a (range_with_len (a + 1) n), count-one f z (a + 1) n other (omega arith) e)
    ]

-- two numbers of a range that pass
pub count-two : (f : ℕ → Bool) (y z a n : ℕ) → y ≢ z → a ≤ y → a ≤ z → y < a + n → z < a + n → f y ≡ true → f z ≡ true → 2 ≤ count_by f (range_with_len a n)
count-two f y z a zero apart low low_z high high_z e h = absurd (omega arith)
count-two f y z a (suc n) apart low low_z high high_z e h =
    elim (cases_Bool (a == y)) [
      | inl t ↦ let same : a ≡ y = grind (arith, nat_tests) in
          let more : a + 1 ≤ z = omega arith in
          omega (arith, count-yes f a (range_with_len (a + 1) n) (ap f same ∙ e), count-one f z (a + 1) n more (omega arith) h)
      | inr t ↦ let other : a + 1 ≤ y = grind (arith, nat_tests) in elim (cases_Bool (a == z)) [
        | inl u ↦ let same : a ≡ z = grind (arith, nat_tests) in omega (arith, count-yes f a (range_with_len (a + 1) n) (ap f same ∙ h), count-one f y (a + 1) n other (omega arith) e)
        | inr u ↦ let more : a + 1 ≤ z = grind (arith, nat_tests) in
            omega (arith, count-more f a (range_with_len (a + 1) n), count-two f y z (a + 1) n apart other more (omega arith) (omega arith) e h)
      ]
    ]

-- the cell that a variable among the slots takes: each of its slots takes it, and it admits it
module _ (v : ℕ) where
  pub taken-all : (full : List SlotCell) (slots : List Slot) (cells : List ℕ) → length cells ≡ length slots → list_any (is_variable v) slots ≡ true
      → list_all (λ (t : SlotCell). take_one_cell full t.0 t.1) (zip slots cells) ≡ true
      → list_all (λ (t : SlotCell). not (is_variable v t.0) || (t.1 == taken_cell v (zip slots cells))) full ≡ true
  taken-all full [] cells long some one = absurd (false≢true some)
  taken-all full (s ∷ ss) [] long some one = absurd (omega arith)
  taken-all full (Number n ∷ ss) (d ∷ ds) long some one = taken-all full ss ds (omega arith) some one
  taken-all full (Variable w ∷ ss) (d ∷ ds) long some one =
      let parts = and_parts (take_one_cell full (Variable w) d) (list_all (λ (t : SlotCell). take_one_cell full t.0 t.1) (zip ss ds)) one in
      elim (cases_Bool (v == w)) [
        | inl e ↦ let same : w ≡ v = grind (arith, nat_tests) in rw e (subst (λ k. list_all (λ (t : SlotCell). not (is_variable k t.0) || (t.1 == d)) full ≡ true) same parts.0)
        | inr e ↦ rw e (taken-all full ss ds (omega arith) (rw e at some) parts.1)
      ]

  pub taken-admitted : (variables : List States) (slots : List Slot) (cells : List ℕ) → length cells ≡ length slots → list_any (is_variable v) slots ≡ true
      → list_all (λ (t : SlotCell). admits variables t.0 t.1) (zip slots cells) ≡ true → admits variables (Variable v) (taken_cell v (zip slots cells)) ≡ true
  taken-admitted variables [] cells long some all = absurd (false≢true some)
  taken-admitted variables (s ∷ ss) [] long some all = absurd (omega arith)
  taken-admitted variables (Number n ∷ ss) (d ∷ ds) long some all =
      taken-admitted variables ss ds (omega arith) some (and_parts (admits variables (Number n) d) (list_all (λ (t : SlotCell). admits variables t.0 t.1) (zip ss ds)) all).1
  taken-admitted variables (Variable w ∷ ss) (d ∷ ds) long some all =
      let parts = and_parts (admits variables (Variable w) d) (list_all (λ (t : SlotCell). admits variables t.0 t.1) (zip ss ds)) all in
      elim (cases_Bool (v == w)) [
        | inl e ↦ let same : w ≡ v = grind (arith, nat_tests) in rw e (subst (λ k. admits variables (Variable k) d ≡ true) same parts.0)
        | inr e ↦ rw e (taken-admitted variables ss ds (omega arith) (rw e at some) parts.1)
      ]

  pub taken-small : (m : ℕ) (slots : List Slot) (cells : List ℕ) → 0 < m → AllByRecursion (λ c. c < m) cells → taken_cell v (zip slots cells) < m
  taken-small m [] cells some small = some
  taken-small m (s ∷ ss) [] some small = some
  taken-small m (s ∷ ss) (d ∷ ds) some small =
      elim (cases_Bool (is_variable v s)) [
        | inl e ↦ rw e small.0
        | inr e ↦ rw e (taken-small m ss ds some small.1)
      ]

  pub taken-none : (slots : List Slot) (cells : List ℕ) → list_any (is_variable v) slots ≡ false → taken_cell v (zip slots cells) ≡ 0
  taken-none [] cells none = refl
  taken-none (s ∷ ss) [] none = refl
  taken-none (s ∷ ss) (d ∷ ds) none =
      elim (cases_Bool (is_variable v s)) [
        | inl e ↦ let k : true ≡ false = rw e at none in absurd (false≢true (sym k))
        | inr e ↦ rw e (taken-none ss ds (rw e at none))
      ]

-- slots take cells twice, and the variable's slots take x and then y
module _ (states : ℕ) (variables : List States) (v x y : ℕ) (apart : x ≢ y) where
  abbrev Admit : List Slot → List ℕ → Type 0
  Admit slots cells = list_all (λ (t : SlotCell). admits variables t.0 t.1) (zip slots cells) ≡ true

  abbrev TakeOne : ℕ → List Slot → List ℕ → Type 0
  TakeOne c slots cells = list_all (λ (t : SlotCell). not (is_variable v t.0) || (t.1 == c)) (zip slots cells) ≡ true

  -- a slot that takes y and then another cell may take y over
  over : (s : Slot) (a b : ℕ) → is_variable v s ≡ false → admits variables s a ≡ true → admits variables s b ≡ true → b < states → a ≡ y → (b == y) ≡ false
      → may_take_over states variables v y s ≡ true
  over s a b other fits_a fits_b small same unlike =
      let here : admits variables s y ≡ true = subst (λ c. admits variables s c ≡ true) same fits_a in
      let there : (not (b == y) && admits variables s b) ≡ true = rw (unlike, fits_b) refl in
      rw (other, here) (any-range (λ c. not (c == y) && admits variables s c) b 0 states (omega arith) (omega arith) there)

  -- as often as the variable comes, other slots give y away
  given-away : (slots : List Slot) (cs ds : List ℕ) → length cs ≡ length slots → length ds ≡ length slots → Admit slots cs → Admit slots ds → TakeOne x slots cs → TakeOne y slots ds
      → AllByRecursion (λ c. c < states) ds
      → count_by (is_variable v) slots + count_by (λ c. c == y) cs ≤ count_by (λ c. c == y) ds + count_by (may_take_over states variables v y) slots
  given-away [] [] [] long more fit_a fit_b one_a one_b small = omega arith
  given-away [] (a ∷ cs) ds long more fit_a fit_b one_a one_b small = absurd (omega arith)
  given-away [] [] (b ∷ ds) long more fit_a fit_b one_a one_b small = absurd (omega arith)
  given-away (s ∷ ss) [] ds long more fit_a fit_b one_a one_b small = absurd (omega arith)
  given-away (s ∷ ss) (a ∷ cs) [] long more fit_a fit_b one_a one_b small = absurd (omega arith)
  given-away (s ∷ ss) (a ∷ cs) (b ∷ ds) long more fit_a fit_b one_a one_b small =
      let fa = and_parts (admits variables s a) (list_all (λ (t : SlotCell). admits variables t.0 t.1) (zip ss cs)) fit_a in
      let fb = and_parts (admits variables s b) (list_all (λ (t : SlotCell). admits variables t.0 t.1) (zip ss ds)) fit_b in
      let oa = and_parts (not (is_variable v s) || (a == x)) (list_all (λ (t : SlotCell). not (is_variable v t.0) || (t.1 == x)) (zip ss cs)) one_a in
      let ob = and_parts (not (is_variable v s) || (b == y)) (list_all (λ (t : SlotCell). not (is_variable v t.0) || (t.1 == y)) (zip ss ds)) one_b in
      let later = given-away ss cs ds (omega arith) (omega arith) fa.1 fb.1 oa.1 ob.1 small.1 in
      let slots_more = count-more (is_variable v) s ss in
      let over_more = count-more (may_take_over states variables v y) s ss in
      elim (cases_Bool (is_variable v s)) [
        | inl e ↦ let ax : (a == x) ≡ true = rw e at oa.0 in
            let by : (b == y) ≡ true = rw e at ob.0 in
            let not_y : (a == y) ≡ false = grind (arith, nat_tests) in
            omega (arith, later, over_more, count-yes (is_variable v) s ss e, count-no (λ c. c == y) a cs not_y, count-yes (λ c. c == y) b ds by)
        | inr e ↦ elim (cases_Bool (a == y)) [
          | inr h ↦ omega (arith, later, over_more, count-no (is_variable v) s ss e, count-no (λ c. c == y) a cs h, count-more (λ c. c == y) b ds)
          | inl h ↦ let same : a ≡ y = grind (arith, nat_tests) in elim (cases_Bool (b == y)) [
            | inl k ↦ omega (arith, later, over_more, count-no (is_variable v) s ss e, count-yes (λ c. c == y) a cs h, count-yes (λ c. c == y) b ds k)
            | inr k ↦ let gives = over s a b e fa.0 fb.0 small.0 same k in
                omega (arith, later, count-yes (may_take_over states variables v y) s ss gives, count-no (is_variable v) s ss e, count-yes (λ c. c == y) a cs h, count-no (λ c. c == y) b ds k)
          ]
        ]
      ]

  -- where y comes cs often either time, that is enough of them
  pub exchanged-for : (slots : List Slot) (cs ds : List ℕ) → length cs ≡ length slots → length ds ≡ length slots → Admit slots cs → Admit slots ds → TakeOne x slots cs → TakeOne y slots ds
      → AllByRecursion (λ c. c < states) ds → count_by (λ c. c == y) cs ≡ count_by (λ c. c == y) ds
      → nat_le (count_by (is_variable v) slots) (count_by (may_take_over states variables v y) slots) ≡ true
  exchanged-for slots cs ds long more fit_a fit_b one_a one_b small alike =
      let few = given-away slots cs ds long more fit_a fit_b one_a one_b small in
      let enough : count_by (is_variable v) slots ≤ count_by (may_take_over states variables v y) slots = omega (arith, few, alike) in
      grind (arith, nat_tests)
