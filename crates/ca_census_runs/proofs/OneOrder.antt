-- A list that is sorted is determined by the order of the elements that tie.
use Rattle.std.proofs.Common.{◌≡◌, ℕ, suc, ◌<◌, ◌≤◌, Bool, true, false, cond, List, [], ◌∷◌, length, get_or, refl, ap, sym, ◌∙◌, inl, inr, subst, arith}
use Rattle.std.specs.Prelude.{not, ◌&&◌}
use Rattle.std.specs.Cmp.{IsStrictWeakOrder}
use Rattle.std.specs.List.{AllByRecursion, filter}
use Rattle.std.specs.List.Sorted.{IsSortedBy, ties}
use Rattle.std.proofs.lemmas.Bool.{cases_Bool}
use Rattle.std.proofs.lemmas.List.Sorted.{sorted_far}

-- the first element, or this one
abbrev first : {X : Type 0} → X → List X → X
first d [] = d
first d (x ∷ xs) = x

-- all but the first
abbrev rest : {X : Type 0} → List X → List X
rest [] = []
rest (x ∷ xs) = xs

-- lists with the same first element have the same rest
cancel : {X : Type 0} (b : Bool) (x : X) (xs ys : List X) → cond b (x ∷ xs) xs ≡ cond b (x ∷ ys) ys → xs ≡ ys
cancel true x xs ys same = ap rest same
cancel false x xs ys same = same

-- a list that begins is not empty
never_empty : {X : Type 0} (x : X) (xs : List X) → [] ≡ x ∷ xs → ⊥
never_empty x xs same = let long = ap length same in omega (arith, long)

module _ {X : Type 0} (lt : X → X → Bool) (order : IsStrictWeakOrder lt) where
  -- none is less than one before it
  abbrev Rises : List X → Type 0
  Rises [] = Unit {0}
  Rises (x ∷ xs) = AllByRecursion (λ y. lt y x ≡ false) xs × Rises xs

  above_all : (x : X) (xs : List X) → ((k : ℕ) → k < length xs → lt (get_or xs k x) x ≡ false) → AllByRecursion (λ y. lt y x ≡ false) xs
  above_all x [] h = tt
  above_all x (y ∷ ys) h = (h 0 (omega arith), above_all x ys (λ k low. h (suc k) (omega arith)))

  rises_all : (xs : List X) → ((i j : ℕ) (d : X) → i ≤ j → j < length xs → lt (get_or xs j d) (get_or xs i d) ≡ false) → Rises xs
  rises_all [] h = tt
  rises_all (x ∷ xs) h = (above_all x xs (λ k low. h 0 (suc k) x (omega arith) (omega arith)), rises_all xs (λ i j d low high. h (suc i) (suc j) d (omega arith) (omega arith)))

  -- and so of the elements that pass a test
  above_if : (x y : X) (l : List X) (b : Bool) → lt y x ≡ false → AllByRecursion (λ z. lt z x ≡ false) l → AllByRecursion (λ z. lt z x ≡ false) (cond b (y ∷ l) l)
  above_if x y l true p q = (p, q)
  above_if x y l false p q = q

  above_kept : (t : X → Bool) (x : X) (xs : List X) → AllByRecursion (λ z. lt z x ≡ false) xs → AllByRecursion (λ z. lt z x ≡ false) (filter t xs)
  above_kept t x [] h = tt
  above_kept t x (y ∷ ys) h = above_if x y (filter t ys) (t y) h.0 (above_kept t x ys h.1)

  -- nothing is less than itself
  not_itself : (x : X) → lt x x ≡ false
  not_itself x = elim (cases_Bool (lt x x)) [
    | inl less ↦ order.one_way x x less
    | inr never ↦ never
  ]

  -- an element ties with itself
  ties_itself : (x : X) → ties lt x x ≡ true
  ties_itself x = rw (not_itself x) refl

  -- those that tie with the first element begin with it
  begins : (x : X) (xs : List X) → filter (ties lt x) (x ∷ xs) ≡ x ∷ filter (ties lt x) xs
  begins x xs = ap (λ b. cond b (x ∷ filter (ties lt x) xs) (filter (ties lt x) xs)) (ties_itself x)

  -- what begins the ties of a list that rises from y is not less than y
  not_less : (x y : X) (xs ys : List X) → AllByRecursion (λ z. lt z y ≡ false) ys → filter (ties lt x) (x ∷ xs) ≡ filter (ties lt x) (y ∷ ys) → lt x y ≡ false
  not_less x y xs ys above same =
      let all : AllByRecursion (λ z. lt z y ≡ false) (filter (ties lt x) (y ∷ ys)) = above_kept (ties lt x) y (y ∷ ys) (not_itself y, above) in
      (subst (AllByRecursion (λ z. lt z y ≡ false)) (sym same ∙ begins x xs) all).0

  -- so the first elements are the same
  same_first : (x y : X) (xs ys : List X) → AllByRecursion (λ z. lt z x ≡ false) xs → AllByRecursion (λ z. lt z y ≡ false) ys
      → ((z : X) → filter (ties lt z) (x ∷ xs) ≡ filter (ties lt z) (y ∷ ys)) → x ≡ y
  same_first x y xs ys over above same =
      let low = not_less x y xs ys above (same x) in
      let high = not_less y x ys xs over (sym (same y)) in
      let tie : ties lt x y ≡ true = λ i. not (low i) && not (high i) in
      let here : filter (ties lt x) (y ∷ ys) ≡ y ∷ filter (ties lt x) ys = ap (λ b. cond b (y ∷ filter (ties lt x) ys) (filter (ties lt x) ys)) tie in
      ap (first x) (sym (begins x xs) ∙ same x ∙ here)

  one_rise : (xs ys : List X) → Rises xs → Rises ys → ((z : X) → filter (ties lt z) xs ≡ filter (ties lt z) ys) → xs ≡ ys
  one_rise [] [] up rise same = refl
  one_rise [] (y ∷ ys) up rise same = absurd (never_empty y (filter (ties lt y) ys) (same y ∙ begins y ys))
  one_rise (x ∷ xs) [] up rise same = absurd (never_empty x (filter (ties lt x) xs) (sym (same x) ∙ begins x xs))
  one_rise (x ∷ xs) (y ∷ ys) up rise same =
      let is : x ≡ y = same_first x y xs ys up.0 rise.0 same in
      let later : xs ≡ ys = one_rise xs ys up.1 rise.1 (λ z.
      cancel (ties lt z x) x (filter (ties lt z) xs) (filter (ties lt z) ys) (same z ∙ ap (λ w. cond (ties lt z w) (w ∷ filter (ties lt z) ys) (filter (ties lt z) ys)) (sym is))) in
      λ i. is i ∷ later i

  -- two sorted lists in which those that tie stand alike are the same
  pub one_order : (xs ys : List X) → IsSortedBy lt xs → IsSortedBy lt ys → ((z : X) → filter (ties lt z) xs ≡ filter (ties lt z) ys) → xs ≡ ys
  one_order xs ys up rise = one_rise xs ys (rises_all xs (sorted_far lt order xs up)) (rises_all ys (sorted_far lt order ys rise))
