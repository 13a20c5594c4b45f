-- Of places with equal cells, where one leads to no outcome, another doesn't either.
use Rattle.std.proofs.Common.{◌≡◌, ℕ, zero, suc, ◌+◌, ◌<◌, List, [], ◌∷◌, ◌++◌, map, zip, length, take, drop, Bool, true, false, ◌==◌, slice_index, refl, ap, sym, ◌∙◌, subst, None, arith, inl, inr}
use Rattle.std.specs.Prelude.{remove, get_or, cond}
use Rattle.std.specs.List.{AllByRecursion, list_any, count_by}
use Rattle.std.proofs.lemmas.Bool.{cases_Bool}
use Rattle.std.proofs.lemmas.List.Sums.{sum_by-cons}
use Rattle.std.proofs.lemmas.Bool.Decides.{nat_tests}
use Rattle.std.proofs.lemmas.List.{map-append, length-map}
use Rattle.ca_rule.specs.Prelude.{every_order, picks, States, Transition, fits}
use Rattle.std.specs.Option.{option_or}
use Rattle.ca_rule.proofs.OrderSearches.{drop-picks}
use Rattle.ca_rule.specs.inner.TablePlaces.{taken_at, outcome_at}
use Rattle.ca_rule.specs.inner.TableSearch.{least_outcome, picked_outcome, LeadToNone}
use Rattle.ca_rule.proofs.RingOrders.{every_order-map}
use Rattle.ca_rule.proofs.PermutedLists.{Alike, Alike-sym, Alike-trans, Alike-uncons, count-cons, length-alike, orders-alike, orders-hold, remove-alike, each-map, each-from_map, each-more}

-- one of the first elements passes
any-found : (p : ℕ → Bool) (k : ℕ) (xs : List ℕ) → list_any p (take k xs) ≡ true → (j : ℕ) × (j < k) × (j < length xs) × (p (get_or xs j 0) ≡ true)
any-found p zero xs e = cc
any-found p (suc k) [] e = cc
any-found p (suc k) (x ∷ xs) e =
    elim (cases_Bool (p x)) [
      | inl h ↦ (0, omega arith, omega arith, h)
      | inr h ↦ let found = any-found p k xs (rw h at e) in (suc found.0, omega (arith, found.1), omega (arith, found.2), found.3)
    ]

-- the cells at places that pass a test
pub counted : (nine : List ℕ) (p : ℕ → Bool) (ys : List ℕ) → count_by p (map (slice_index nine) ys) ≡ count_by (λ y. p (slice_index nine y)) ys
counted nine p [] = refl
counted nine p (y ∷ ys) =
    count-cons p (slice_index nine y) (map (slice_index nine) ys) ∙ ap (λ n. cond (p (slice_index nine y)) 1 0 + n) (counted nine p ys)
    ∙ sym (sum_by-cons (λ z. cond (p (slice_index nine z)) 1 0) y ys)

mapped : (nine xs ys : List ℕ) → Alike xs ys → Alike (map (slice_index nine) xs) (map (slice_index nine) ys)
mapped nine xs ys h = record { counts = λ p. counted nine p xs ∙ h.counts (λ y. p (slice_index nine y)) ∙ sym (counted nine p ys) }

module _ (variables : List States) (nine : List ℕ) (t : Transition) where
  -- the slots don't fit where the first take their cells at these places, and the others take these cells
  abbrev Unfit : List ℕ → List ℕ → Type 0
  Unfit taken cells = fits variables (zip t.inputs (map (slice_index nine) taken ++ cells)) ≡ false

  unfit-at : (taken g : List ℕ) → fits variables (taken_at nine t (taken ++ g)) ≡ fits variables (zip t.inputs (map (slice_index nine) taken ++ map (slice_index nine) g))
  unfit-at taken g = ap (λ cells. fits variables (zip t.inputs cells)) (map-append (slice_index nine) taken g)

  each-unfit : (taken : List ℕ) (gs : List (List ℕ)) → outcome_at variables nine t (map (λ g. taken ++ g) gs) ≡ None → AllByRecursion (λ g. Unfit taken (map (slice_index nine) g)) gs
  each-unfit taken [] e = tt
  each-unfit taken (g ∷ gs) e =
      elim (cases_Bool (fits variables (taken_at nine t (taken ++ g)))) [
        | inl h ↦ let k = rw h at e in cc
        | inr h ↦ (sym (unfit-at taken g) ∙ h, each-unfit taken gs (rw h at e))
      ]

  pub none-of-unfit : (taken : List ℕ) (gs : List (List ℕ)) → AllByRecursion (λ g. Unfit taken (map (slice_index nine) g)) gs → outcome_at variables nine t (map (λ g. taken ++ g) gs) ≡ None
  none-of-unfit taken [] h = refl
  none-of-unfit taken (g ∷ gs) h = rw (unfit-at taken g ∙ h.0) (none-of-unfit taken gs h.1)

  -- no outcome from some places, none from others with the same cells
  same_none : (taken others : List ℕ) (n : ℕ) (xs ys : List ℕ) → map (slice_index nine) taken ≡ map (slice_index nine) others → length ys ≡ n
      → Alike (map (slice_index nine) xs) (map (slice_index nine) ys) → least_outcome variables nine t taken n xs ≡ None → least_outcome variables nine t others n ys ≡ None
  same_none taken others n xs ys same count alike none =
      let f = slice_index nine in
      let all = subst (AllByRecursion (Unfit taken)) (every_order-map f n xs) (each-map (Unfit taken) (map f) (every_order n xs) (each-unfit taken (every_order n xs) none)) in
      let long : length (map f ys) ≡ n = length-map ys f ∙ count in
      let one : (g : List ℕ) → Alike (map f ys) g → Unfit others g = λ g like.
      subst (λ l. fits variables (zip t.inputs (l ++ g)) ≡ false) same
      (orders-hold n (Unfit taken) (map f xs) g (sym (length-alike (map f ys) g like) ∙ long) (Alike-trans (map f xs) (map f ys) g alike like) all) in
      none-of-unfit others (every_order n ys)
      (each-from_map (Unfit others) (map f) (every_order n ys)
      (subst (AllByRecursion (Unfit others)) (sym (every_order-map f n ys)) (each-more (λ g. Alike (map f ys) g) (Unfit others) one (every_order n (map f ys)) (orders-alike n (map f ys) long))))

  -- without equal cells
  same_without : (xs : List ℕ) (i j : ℕ) → i < length xs → j < length xs → slice_index nine (get_or xs i 0) ≡ slice_index nine (get_or xs j 0)
      → Alike (map (slice_index nine) (remove xs i)) (map (slice_index nine) (remove xs j))
  same_without xs i j hi hj e =
      let f = slice_index nine in
      let first = mapped nine (get_or xs i 0 ∷ remove xs i) xs (Alike-sym xs _ (remove-alike xs i hi)) in
      let second = mapped nine xs (get_or xs j 0 ∷ remove xs j) (remove-alike xs j hj) in
      Alike-uncons (f (get_or xs i 0)) (map f (remove xs i)) (map f (remove xs j))
      (subst (λ c. Alike (map f (get_or xs i 0 ∷ remove xs i)) (c ∷ map f (remove xs j))) (sym e) (Alike-trans (map f (get_or xs i 0 ∷ remove xs i)) (map f xs) (map f (get_or xs j 0 ∷ remove xs j)) first second))

  -- a place whose cell was tried before leads to none
  pub repeated : (taken free : List ℕ) (m at : ℕ) → at < length free → length free ≡ suc m
      → list_any (λ p. slice_index nine p == slice_index nine (get_or free at 0)) (take at free) ≡ true
      → LeadToNone variables nine t taken m free at → least_outcome variables nine t (taken ++ get_or free at 0 ∷ []) m (remove free at) ≡ None
  repeated taken free m at here count again tried =
      let found = any-found (λ p. slice_index nine p == slice_index nine (get_or free at 0)) at free again in
      let same : slice_index nine (get_or free found.0 0) ≡ slice_index nine (get_or free at 0) = let e = found.3 in grind (arith, nat_tests) in
      same_none (taken ++ get_or free found.0 0 ∷ []) (taken ++ get_or free at 0 ∷ []) m (remove free found.0) (remove free at)
      (map-append (slice_index nine) taken (get_or free found.0 0 ∷ []) ∙ ap (λ c. map (slice_index nine) taken ++ c ∷ []) same ∙ sym (map-append (slice_index nine) taken (get_or free at 0 ∷ [])))
      (omega (arith, length-alike free (get_or free at 0 ∷ remove free at) (remove-alike free at here)))
      (same_without free found.0 at found.2 here same) (tried found.0 found.1)

  -- one more place leads to none
  pub one_more : (taken free : List ℕ) (m at : ℕ) → LeadToNone variables nine t taken m free at → least_outcome variables nine t (taken ++ get_or free at 0 ∷ []) m (remove free at) ≡ None
      → LeadToNone variables nine t taken m free (at + 1)
  one_more taken free m at tried none = λ k below.
      elim (cases_Bool (k == at)) [
        | inl e ↦ let same : k ≡ at = grind (arith, nat_tests) in
            subst (λ i. least_outcome variables nine t (taken ++ get_or free i 0 ∷ []) m (remove free i) ≡ None) (sym same) none
        | inr e ↦ tried k (grind (arith, nat_tests))
      ]

  -- the pick of a place that led to none
  pub led_to_none : (taken free : List ℕ) (m at : ℕ) (more others : List ℕ) → length free ≡ suc m → at < length free → more ≡ taken ++ get_or free at 0 ∷ [] → others ≡ remove free at
      → least_outcome variables nine t more (length others) others ≡ None → least_outcome variables nine t (taken ++ get_or free at 0 ∷ []) m (remove free at) ≡ None
  led_to_none taken free m at more others count here e f none =
      let fewer : length others ≡ m = omega (arith, length-alike free (get_or free at 0 ∷ remove free at) (remove-alike free at here), ap (length {A = ℕ}) f) in
      subst (λ l. least_outcome variables nine t l m (remove free at) ≡ None) e
      (subst (λ l. least_outcome variables nine t more m l ≡ None) f (subst (λ n. least_outcome variables nine t more n others ≡ None) fewer none))

  -- so the outcome lies with the picks after it
  pub none_here : (taken free : List ℕ) (m at : ℕ) → length free ≡ suc m → at < length free
      → picked_outcome variables nine t taken m (picks free) ≡ picked_outcome variables nine t taken m (drop at (picks free)) → LeadToNone variables nine t taken m free at
      → least_outcome variables nine t (taken ++ get_or free at 0 ∷ []) m (remove free at) ≡ None
      → (picked_outcome variables nine t taken m (picks free) ≡ picked_outcome variables nine t taken m (drop (at + 1) (picks free))) × LeadToNone variables nine t taken m free (at + 1)
  none_here taken free m at count here left tried none =
      let next : suc at ≡ at + 1 = omega arith in (
        left ∙ ap (picked_outcome variables nine t taken m) (drop-picks free at here)
            ∙ ap (λ o. option_or o (picked_outcome variables nine t taken m (drop (suc at) (picks free)))) none
            ∙ ap (λ n. picked_outcome variables nine t taken m (drop n (picks free))) next,
        one_more taken free m at tried none,
      )
