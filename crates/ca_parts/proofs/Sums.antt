-- States of parts, added.
use Rattle.std.proofs.Common.{◌≡◌, ◌≢◌, ℕ, zero, suc, ◌+◌, ◌<◌, List, [], ◌∷◌, length, get_or, inl, inr, refl, sym, ap, ◌∙◌, arith, subst}
use Rattle.std.specs.Prelude.{ℤ, replicate}
use Rattle.std.specs.List.{All, AllPairs, Contains, sum_by}
use Rattle.std.proofs.lemmas.Bool.{cases_eq}
use Rattle.std.proofs.lemmas.List.Elements.{All-head, All-tail}
use Rattle.std.proofs.lemmas.List.Sums.{sum_by-cons}
use Rattle.ca_plane.specs.Prelude.{Picture, cell, after, cells_after}
use Rattle.ca_plane.proofs.After.{around-same, after_same, after_none}
use Rattle.ca_parts.specs.Prelude.{AreApartBefore, NeverMeet, together}
use Rattle.ca_parts.proofs.ApartPlanes.{AreApart-turned, StayApart, both, after_both, StayApart-both, StayApart-same}
use Rattle.ca_parts.proofs.Lists.{AllPairs-head, AllPairs-tail, Contains-later}

-- ---- sums

-- a sum that isn't 0 has an element that isn't 0
pub one_of_sum : {X : Type 0} (f : X → ℕ) (xs : List X) → sum_by f xs ≢ 0 → (x : X) × Contains xs x × (f x ≢ 0)
one_of_sum f [] some = absurd (some refl)
one_of_sum f (x ∷ xs) some =
    elim (cases_eq (f x) 0) [
      | inl none ↦
          let found = one_of_sum f xs (λ z. some (sum_by-cons f x xs ∙ (let sum : f x + sum_by f xs ≡ 0 = omega arith in sum))) in
          (found.0, Contains-later found.0 x xs found.1, found.2)
      | inr here ↦ (x, (0, omega arith, refl), here)
    ]

-- a sum of zeros
pub sum_of_none : {X : Type 0} (f : X → ℕ) (xs : List X) → All (λ x. f x ≡ 0) xs → sum_by f xs ≡ 0
sum_of_none f [] none = refl
sum_of_none f (x ∷ xs) none =
    let first : f x ≡ 0 = All-head (λ y. f y ≡ 0) x xs none in
    let rest = sum_of_none f xs (All-tail (λ y. f y ≡ 0) x xs none) in
    sum_by-cons f x xs ∙ (let sum : f x + sum_by f xs ≡ 0 = omega arith in sum)

-- where all others are 0, the sum is the one
sum_of_one : {X : Type 0} (f : X → ℕ) (R : X → X → Type 0) → ((x y : X) → R x y → R y x) → (xs : List X) (k : ℕ) (x : X) → AllPairs R xs
    → ((y : X) → R x y → f y ≡ 0) → k < length xs → get_or xs k x ≡ x → sum_by f xs ≡ f x
sum_of_one f R turned [] k x pairs none low is = absurd (omega arith)
sum_of_one f R turned (y ∷ ys) zero x pairs none low is =
    let rest = sum_of_none f ys (λ k d within. none (get_or ys k d) (subst (λ z. R z (get_or ys k d)) is (AllPairs-head R y ys pairs k d within))) in
    let here : f y ≡ f x = ap f is in
    sum_by-cons f y ys ∙ (let sum : f y + sum_by f ys ≡ f x = omega arith in sum)
sum_of_one f R turned (y ∷ ys) (suc k) x pairs none low is =
    let within : k < length ys = omega arith in
    let rest = sum_of_one f R turned ys k x (AllPairs-tail R y ys pairs) none within is in
    let here : f y ≡ 0 = none y (turned y x (subst (λ z. R y z) is (AllPairs-head R y ys pairs k x within))) in
    sum_by-cons f y ys ∙ (let sum : f y + sum_by f ys ≡ f x = omega arith in sum)

pub sum_alone : {X : Type 0} (f : X → ℕ) (R : X → X → Type 0) → ((x y : X) → R x y → R y x) → (xs : List X) (x : X) → AllPairs R xs
    → ((y : X) → R x y → f y ≡ 0) → Contains xs x → sum_by f xs ≡ f x
sum_alone f R turned xs x pairs none (k, low, is) = sum_of_one f R turned xs k x pairs none low is

-- ---- parts that are apart

-- what stays apart from each of the parts stays apart from them together
StayApart-together : (next : List ℕ → ℕ) → next (replicate 9 0) ≡ 0 → (n : ℕ) (p : Picture) (parts : List Picture) → All (AreApartBefore next n p) parts → AllPairs (AreApartBefore next n) parts
    → StayApart next n (cell p) (together parts)
StayApart-together next quiet n p [] all pairs m low x y =
    inr (around-same (cells_after next (together []) m) (λ _ _. 0) x y (λ u v _. after_none next quiet m u v))
StayApart-together next quiet n p (q ∷ qs) all pairs m low x y =
    StayApart-same next n (cell p) (both (cell q) (together qs)) (together (q ∷ qs)) (λ x y. sum_by-cons (λ r. cell r x y) q qs)
    (StayApart-both next quiet n (cell p) (cell q) (together qs) (All-head (AreApartBefore next n p) q qs all)
    (StayApart-together next quiet n p qs (All-tail (AreApartBefore next n p) q qs all) (AllPairs-tail (AreApartBefore next n) q qs pairs))
    (StayApart-together next quiet n q qs (AllPairs-head (AreApartBefore next n) q qs pairs) (AllPairs-tail (AreApartBefore next n) q qs pairs)))
    m low x y

-- so parts go on each as if it were alone, as long as each two are apart
pub after_together : (next : List ℕ → ℕ) → next (replicate 9 0) ≡ 0 → (parts : List Picture) (n : ℕ) → AllPairs (AreApartBefore next n) parts
    → (x y : ℤ) → cells_after next (together parts) n x y ≡ sum_by (λ p. after next p n x y) parts
after_together next quiet [] n pairs x y = after_none next quiet n x y
after_together next quiet (p ∷ ps) n pairs x y =
    let rest = AllPairs-tail (AreApartBefore next n) p ps pairs in
    after_same next (together (p ∷ ps)) (both (cell p) (together ps)) n (λ u v. sum_by-cons (λ r. cell r u v) p ps) x y
    ∙ after_both next quiet (cell p) (together ps) n (StayApart-together next quiet n p ps (AllPairs-head (AreApartBefore next n) p ps pairs) rest) x y
    ∙ ap (λ s. after next p n x y + s) (after_together next quiet ps n rest x y)
    ∙ sym (sum_by-cons (λ r. after next r n x y) p ps)

-- parts that never meet are apart before each number of generations
pub apart_before : (next : List ℕ → ℕ) (parts : List Picture) → AllPairs (NeverMeet next) parts → (n : ℕ) → AllPairs (AreApartBefore next n) parts
apart_before next parts pairs n = λ i j d low high m _. pairs i j d low high m

-- the order of pictures that are apart doesn't matter
pub AreApartBefore-turned : (next : List ℕ → ℕ) (n : ℕ) (p q : Picture) → AreApartBefore next n p q → AreApartBefore next n q p
AreApartBefore-turned next n p q apart m low = AreApart-turned (after next p m) (after next q m) (apart m low)
