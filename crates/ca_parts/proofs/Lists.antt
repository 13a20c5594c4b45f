-- Elements of a list, and of lists of the same length.
use Rattle.std.proofs.Common.{◌≡◌, ℕ, zero, suc, ◌<◌, List, [], ◌∷◌, length, map, get_or, ◌⊎◌, inl, inr, refl, sym, ap, ◌∙◌, arith, subst}
use Rattle.std.specs.List.{All, AllPairs, AllZip, Contains}
use Rattle.std.proofs.lemmas.Bool.{cases_lt}
use Rattle.std.proofs.lemmas.List.{get_or_default}
use Rattle.std.proofs.lemmas.List.Kept.{AllPairs-cons}
use Rattle.std.proofs.lemmas.List.Elements.{All-head, All-tail, All-nil, All-cons}

-- ---- places of a list

-- what holds of each two elements holds of the first and each later one,
pub AllPairs-head : {X : Type 0} (R : X → X → Type 0) (x : X) (xs : List X) → AllPairs R (x ∷ xs) → All (R x) xs
AllPairs-head R x xs pairs = λ k d low. pairs 0 (suc k) d (omega arith) (omega arith)

-- and of each two later ones
pub AllPairs-tail : {X : Type 0} (R : X → X → Type 0) (x : X) (xs : List X) → AllPairs R (x ∷ xs) → AllPairs R xs
AllPairs-tail R x xs pairs = λ i j d low high. pairs (suc i) (suc j) d (omega arith) (omega arith)

-- an element is the one at its place
at_place : {X : Type 0} (xs : List X) (k : ℕ) (x d : X) → k < length xs → get_or xs k x ≡ x → get_or xs k d ≡ x
at_place xs k x d low is = get_or_default xs k d x low ∙ is

-- two elements are the same, or what holds of each two elements holds of them
pub same_or_two : {X : Type 0} (R : X → X → Type 0) → ((x y : X) → R x y → R y x) → (xs : List X) (x y : X) → AllPairs R xs → Contains xs x → Contains xs y → (x ≡ y) ⊎ R x y
same_or_two R turned xs x y pairs (i, low, is) (j, high, are) =
    elim (cases_lt i j) [
      | inl less ↦ inr (subst (λ z. R x z) (at_place xs j y x high are) (subst (λ z. R z (get_or xs j x)) is (pairs i j x less high)))
      | inr from ↦ elim (cases_lt j i) [
        | inl less ↦ inr (turned y x (subst (λ z. R y z) (at_place xs i x y low is) (subst (λ z. R z (get_or xs i y)) are (pairs j i y less low))))
        | inr to ↦
            let same : i ≡ j = omega arith in
            inl (sym is ∙ ap (λ k. get_or xs k x) same ∙ at_place xs j y x high are)
      ]
    ]

-- an element of the rest is one of the list
pub Contains-later : {X : Type 0} (x y : X) (ys : List X) → Contains ys x → Contains (y ∷ ys) x
Contains-later x y ys (k, low, is) = (suc k, omega arith, is)

-- ---- two lists of the same length

-- each element and what a function gives of it
pub AllZip-map : {X Y : Type 0} (R : X → Y → Type 0) (f : X → Y) → ((x : X) → R x (f x)) → (xs : List X) → AllZip R xs (map f xs)
AllZip-map R f gives [] = tt
AllZip-map R f gives (x ∷ xs) = (gives x, AllZip-map R f gives xs)

-- what holds of each element of the one list, and passes to the other, holds of each of the other
pub All-zip : {X Y : Type 0} (R : X → Y → Type 0) (P : X → Type 0) (Q : Y → Type 0) → ((x : X) (y : Y) → R x y → P x → Q y) → (xs : List X) (ys : List Y) → AllZip R xs ys → All P xs → All Q ys
All-zip R P Q passes [] [] zip all = All-nil Q
All-zip R P Q passes [] (y ∷ ys) zip all = absurd zip
All-zip R P Q passes (x ∷ xs) [] zip all = absurd zip
All-zip R P Q passes (x ∷ xs) (y ∷ ys) zip all =
    All-cons Q y ys (passes x y zip.0 (All-head P x xs all)) (All-zip R P Q passes xs ys zip.1 (All-tail P x xs all))

-- and so does what holds of each two
pub AllPairs-zip : {X Y : Type 0} (R : X → Y → Type 0) (S : X → X → Type 0) (T : Y → Y → Type 0) → ((x x' : X) (y y' : Y) → R x y → R x' y' → S x x' → T y y')
    → (xs : List X) (ys : List Y) → AllZip R xs ys → AllPairs S xs → AllPairs T ys
AllPairs-zip R S T passes [] [] zip pairs = λ i j d low high. absurd (omega arith)
AllPairs-zip R S T passes [] (y ∷ ys) zip pairs = absurd zip
AllPairs-zip R S T passes (x ∷ xs) [] zip pairs = absurd zip
AllPairs-zip R S T passes (x ∷ xs) (y ∷ ys) zip pairs =
    AllPairs-cons T y ys (All-zip R (S x) (T y) (λ x' y' r s. passes x x' y y' zip.0 r s) xs ys zip.1 (AllPairs-head S x xs pairs))
    (AllPairs-zip R S T passes xs ys zip.1 (AllPairs-tail S x xs pairs))

-- an element of the second list has one beside it in the first
pub beside : {X Y : Type 0} (R : X → Y → Type 0) (xs : List X) (ys : List Y) (y : Y) → AllZip R xs ys → Contains ys y → (x : X) × Contains xs x × R x y
beside R [] [] y zip (k, low, is) = absurd (omega arith)
beside R [] (z ∷ zs) y zip has = absurd zip
beside R (x ∷ xs) [] y zip has = absurd zip
beside R (x ∷ xs) (z ∷ zs) y zip (zero, low, is) = (x, (0, omega arith, refl), subst (λ w. R x w) is zip.0)
beside R (x ∷ xs) (z ∷ zs) y zip (suc k, low, is) =
    let within : k < length zs = omega arith in
    let (w, has, r) = beside R xs zs y zip.1 (k, within, is) in
    (w, Contains-later w x xs has, r)

-- the lists exchanged
pub AllZip-turned : {X Y : Type 0} (R : X → Y → Type 0) (xs : List X) (ys : List Y) → AllZip R xs ys → AllZip (λ y x. R x y) ys xs
AllZip-turned R [] [] zip = tt
AllZip-turned R [] (y ∷ ys) zip = absurd zip
AllZip-turned R (x ∷ xs) [] zip = absurd zip
AllZip-turned R (x ∷ xs) (y ∷ ys) zip = (zip.0, AllZip-turned R xs ys zip.1)

-- what follows of each two beside each other
pub AllZip-weaker : {X Y : Type 0} (R S : X → Y → Type 0) → ((x : X) (y : Y) → R x y → S x y) → (xs : List X) (ys : List Y) → AllZip R xs ys → AllZip S xs ys
AllZip-weaker R S passes [] [] zip = tt
AllZip-weaker R S passes [] (y ∷ ys) zip = absurd zip
AllZip-weaker R S passes (x ∷ xs) [] zip = absurd zip
AllZip-weaker R S passes (x ∷ xs) (y ∷ ys) zip = (passes x y zip.0, AllZip-weaker R S passes xs ys zip.1)

-- what holds of each element of the first list, too
pub AllZip-with : {X Y : Type 0} (R : X → Y → Type 0) (P : X → Type 0) (xs : List X) (ys : List Y) → AllZip R xs ys → All P xs → AllZip (λ x y. R x y × P x) xs ys
AllZip-with R P [] [] zip all = tt
AllZip-with R P [] (y ∷ ys) zip all = absurd zip
AllZip-with R P (x ∷ xs) [] zip all = absurd zip
AllZip-with R P (x ∷ xs) (y ∷ ys) zip all = ((zip.0, All-head P x xs all), AllZip-with R P xs ys zip.1 (All-tail P x xs all))

-- and what holds of each element of the second
pub AllZip-with_other : {X Y : Type 0} (R : X → Y → Type 0) (P : Y → Type 0) (xs : List X) (ys : List Y) → AllZip R xs ys → All P ys → AllZip (λ x y. R x y × P y) xs ys
AllZip-with_other R P xs ys zip all =
    AllZip-turned (λ y x. R x y × P y) ys xs (AllZip-with (λ y x. R x y) P ys xs (AllZip-turned R xs ys zip) all)
