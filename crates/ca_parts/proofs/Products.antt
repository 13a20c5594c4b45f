-- What a function gives of each element of one list and each of another, and what a filter keeps of a list.
use Rattle.std.proofs.Common.{◌≡◌, zero, suc, ◌<◌, List, [], ◌∷◌, ◌++◌, length, map, get_or, true, inl, inr, sym, ap, ◌∙◌, arith, subst}
use Rattle.std.specs.Prelude.{Bool}
use Rattle.std.specs.List.{All, AllPairs, Contains, filter, flat_map}
use Rattle.std.proofs.lemmas.Bool.{cases_Bool, cond-true, cond-false}
use Rattle.std.proofs.lemmas.List.Kept.{AllPairs-cons}
use Rattle.std.proofs.lemmas.List.Elements.{All-nil, All-head, All-tail, All-append, All-map, Contains-append_left, Contains-append_right}
use Rattle.ca_parts.proofs.Lists.{AllPairs-head, AllPairs-tail, Contains-later}

-- ---- lists

-- an element that passes is kept
pub Contains-filter : {X : Type 0} (test : X → Bool) (xs : List X) (x : X) → Contains xs x → test x ≡ true → Contains (filter test xs) x
Contains-filter test [] x (k, low, is) passes = absurd (omega (arith, low))
Contains-filter test (y ∷ ys) x (zero, low, is) passes =
    subst (λ zs. Contains zs x) (sym (cond-true (test y) (y ∷ filter test ys) (filter test ys) (ap test is ∙ passes))) (0, omega arith, is)
Contains-filter test (y ∷ ys) x (suc k, low, is) passes =
    let within : k < length ys = omega (arith, low) in
    let rest = Contains-filter test ys x (k, within, is) passes in
    elim (cases_Bool (test y)) [
      | inl kept ↦ subst (λ zs. Contains zs x) (sym (cond-true (test y) (y ∷ filter test ys) (filter test ys) kept)) (Contains-later x y (filter test ys) rest)
      | inr left ↦ subst (λ zs. Contains zs x) (sym (cond-false (test y) (y ∷ filter test ys) (filter test ys) left)) rest
    ]

-- what a function gives of an element
pub Contains-map : {X Y : Type 0} (f : X → Y) (xs : List X) (x : X) → Contains xs x → Contains (map f xs) (f x)
Contains-map f [] x (k, low, is) = absurd (omega (arith, low))
Contains-map f (y ∷ ys) x (zero, low, is) = (0, omega arith, ap f is)
Contains-map f (y ∷ ys) x (suc k, low, is) =
    let within : k < length ys = omega (arith, low) in
    Contains-later (f x) (f y) (map f ys) (Contains-map f ys x (k, within, is))

-- each two of two lists in a row
pub AllPairs-append : {X : Type 0} (R : X → X → Type 0) (xs ys : List X) → AllPairs R xs → AllPairs R ys → All (λ x. All (R x) ys) xs → AllPairs R (xs ++ ys)
AllPairs-append R [] ys one two each = two
AllPairs-append R (x ∷ xs) ys one two each =
    AllPairs-cons R x (xs ++ ys) (All-append (R x) xs ys (AllPairs-head R x xs one) (All-head (λ z. All (R z) ys) x xs each))
    (AllPairs-append R xs ys (AllPairs-tail R x xs one) two (All-tail (λ z. All (R z) ys) x xs each))

-- each two of what a function gives
pub AllPairs-map : {X Y : Type 0} (R : Y → Y → Type 0) (f : X → Y) (xs : List X) → AllPairs (λ x y. R (f x) (f y)) xs → AllPairs R (map f xs)
AllPairs-map R f [] pairs = λ i j d low high. absurd (omega (arith, low, high))
AllPairs-map R f (x ∷ xs) pairs =
    AllPairs-cons R (f x) (map f xs) (All-map (R (f x)) f xs (AllPairs-head (λ y z. R (f y) (f z)) x xs pairs))
    (AllPairs-map R f xs (AllPairs-tail (λ y z. R (f y) (f z)) x xs pairs))

-- ---- two lists

-- what f gives of each x and each y
abbrev pub each_with : {X Y Z : Type 0} → (X → Y → Z) → List X → List Y → List Z
each_with f xs ys = flat_map (λ x. map (f x) ys) xs

pub Contains-each_with : {X Y Z : Type 0} (f : X → Y → Z) (xs : List X) (ys : List Y) (x : X) (y : Y) → Contains xs x → Contains ys y → Contains (each_with f xs ys) (f x y)
Contains-each_with f [] ys x y (k, low, is) has = absurd (omega (arith, low))
Contains-each_with f (z ∷ zs) ys x y (zero, low, is) has =
    Contains-append_left (map (f z) ys) (each_with f zs ys) (f x y) (subst (λ w. Contains (map (f w) ys) (f x y)) (sym is) (Contains-map (f x) ys y has))
Contains-each_with f (z ∷ zs) ys x y (suc k, low, is) has =
    let within : k < length zs = omega (arith, low) in
    Contains-append_right (map (f z) ys) (each_with f zs ys) (f x y) (Contains-each_with f zs ys x y (k, within, is) has)

pub All-each_with : {X Y Z : Type 0} (P : Z → Type 0) (f : X → Y → Z) (xs : List X) (ys : List Y) → All (λ x. All (λ y. P (f x y)) ys) xs → All P (each_with f xs ys)
All-each_with P f [] ys each = All-nil P
All-each_with P f (x ∷ xs) ys each =
    All-append P (map (f x) ys) (each_with f xs ys) (All-map P (f x) ys (All-head (λ z. All (λ y. P (f z y)) ys) x xs each))
    (All-each_with P f xs ys (All-tail (λ z. All (λ y. P (f z y)) ys) x xs each))

-- each two of them differ in the x, or have the x in common and differ in the y
module _ {X Y Z : Type 0} (f : X → Y → Z) (P : X → Type 0) (Q : Y → Type 0) (R : X → X → Type 0) (S : Y → Y → Type 0) (T : Z → Z → Type 0)
    (one : (x : X) (y y' : Y) → P x → Q y → Q y' → S y y' → T (f x y) (f x y')) (two : (x x' : X) (y y' : Y) → P x → P x' → Q y → Q y' → R x x' → T (f x y) (f x' y')) where
  pub AllPairs-each_with : (xs : List X) (ys : List Y) → All P xs → All Q ys → AllPairs R xs → AllPairs S ys → AllPairs T (each_with f xs ys)
  AllPairs-each_with [] ys ps qs rs ss = λ i j d low high. absurd (omega (arith, low, high))
  AllPairs-each_with (x ∷ xs) ys ps qs rs ss =
      let first = All-head P x xs ps in
      let rest = All-tail P x xs ps in
      let apart = AllPairs-head R x xs rs in
      AllPairs-append T (map (f x) ys) (each_with f xs ys)
      (AllPairs-map T (f x) ys (λ i j d less low. one x (get_or ys i d) (get_or ys j d) first (qs i d (omega (arith, less, low))) (qs j d low) (ss i j d less low)))
      (AllPairs-each_with xs ys rest qs (AllPairs-tail R x xs rs) ss)
      (All-map (λ z. All (T z) (each_with f xs ys)) (f x) ys (λ i d low.
      All-each_with (T (f x (get_or ys i d))) f xs ys (λ k e within. λ j g below.
      two x (get_or xs k e) (get_or ys i d) (get_or ys j g) first (rest k e within) (qs i d low) (qs j g below) (apart k e within))))
