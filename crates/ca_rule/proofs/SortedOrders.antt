-- Each order of a symmetry has each position of the ring once.
use Rattle.std.proofs.Common.{◌≡◌, ℕ, List, [], ◌∷◌, refl, subst, arith}
use Rattle.std.specs.Prelude.{nat_le, if◌then◌else◌}
use Rattle.std.specs.List.{AllByRecursion}
use Rattle.std.proofs.lemmas.Bool.{cases_Bool}
use Rattle.std.proofs.Common.{inl, inr}
use Rattle.ca_rule.specs.declared.table.{neighbourhood.Neighbourhood.Neighbourhood, neighbourhood.Symmetry.Symmetry}
use Rattle.ca_rule.specs.declared.table.neighbourhood.Neighbourhood.TheVariants.{VonNeumann, Moore, Hexagonal, OneDimensional}
use Rattle.ca_rule.specs.declared.table.neighbourhood.Symmetry.TheVariants.{Identity, Rotate4, Rotate4Reflect, ReflectHorizontal, Rotate8, Rotate8Reflect, Rotate2, Rotate3, Rotate6, Rotate6Reflect, Reflect, Permute}
use Rattle.ca_rule.specs.Prelude.{orders, forward_order, ring_size}
use Rattle.ca_rule.proofs.PermutedLists.{Alike, Alike-trans, Alike-cons, count-cons, each-more, orders-alike}

-- an element put at its place among others
abbrev put_sorted : ℕ → List ℕ → List ℕ
put_sorted x [] = x ∷ []
put_sorted x (y ∷ ys) = if nat_le x y then x ∷ y ∷ ys else y ∷ put_sorted x ys

abbrev sorted : List ℕ → List ℕ
sorted [] = []
sorted (x ∷ xs) = put_sorted x (sorted xs)

put-alike : (x : ℕ) (xs : List ℕ) → Alike (put_sorted x xs) (x ∷ xs)
put-alike x [] = record { counts = λ p. refl }
put-alike x (y ∷ ys) =
    elim (cases_Bool (nat_le x y)) [
      | inl e ↦ rw e (record { counts = λ p. refl })
      | inr e ↦ rw e (record { counts = λ p. omega (arith, count-cons p y (put_sorted x ys), (put-alike x ys).counts p, count-cons p x ys, count-cons p x (y ∷ ys), count-cons p y ys) })
    ]

sorted-alike : (xs : List ℕ) → Alike (sorted xs) xs
sorted-alike [] = record { counts = λ p. refl }
sorted-alike (x ∷ xs) = Alike-trans (put_sorted x (sorted xs)) (x ∷ sorted xs) (x ∷ xs) (put-alike x (sorted xs)) (Alike-cons x (sorted xs) xs (sorted-alike xs))

-- lists of which each, sorted, is this one
sorted-to : (base : List ℕ) (gs : List (List ℕ)) → AllByRecursion (λ g. sorted g ≡ base) gs → AllByRecursion (λ g. Alike base g) gs
sorted-to base gs all = each-more (λ g. sorted g ≡ base) (λ g. Alike base g) (λ g e. subst (λ b. Alike b g) e (sorted-alike g)) gs all

-- the positions of the ring
abbrev pub Positions : Neighbourhood → List ℕ → Type 0
Positions h g = Alike (forward_order (ring_size h) 0) g

permuted : (h : Neighbourhood) → AllByRecursion (Positions h) (orders h Permute)
permuted VonNeumann = orders-alike 4 (forward_order 4 0) refl
permuted Moore = orders-alike 8 (forward_order 8 0) refl
permuted Hexagonal = orders-alike 6 (forward_order 6 0) refl
permuted OneDimensional = orders-alike 2 (forward_order 2 0) refl

pub order-positions : (h : Neighbourhood) (s : Symmetry) → AllByRecursion (Positions h) (orders h s)
order-positions h Permute = permuted h
order-positions VonNeumann Identity = (record { counts = λ p. refl }, tt)
order-positions Moore Identity = (record { counts = λ p. refl }, tt)
order-positions Hexagonal Identity = (record { counts = λ p. refl }, tt)
order-positions OneDimensional Identity = (record { counts = λ p. refl }, tt)
order-positions VonNeumann Rotate4 = sorted-to (forward_order 4 0) (orders VonNeumann Rotate4) (refl, (refl, (refl, (refl, tt))))
order-positions VonNeumann Rotate4Reflect = sorted-to (forward_order 4 0) (orders VonNeumann Rotate4Reflect) (refl, (refl, (refl, (refl, (refl, (refl, (refl, (refl, tt))))))))
order-positions VonNeumann ReflectHorizontal = sorted-to (forward_order 4 0) (orders VonNeumann ReflectHorizontal) (refl, (refl, tt))
order-positions Moore Rotate4 = sorted-to (forward_order 8 0) (orders Moore Rotate4) (refl, (refl, (refl, (refl, tt))))
order-positions Moore Rotate4Reflect = sorted-to (forward_order 8 0) (orders Moore Rotate4Reflect) (refl, (refl, (refl, (refl, (refl, (refl, (refl, (refl, tt))))))))
order-positions Moore ReflectHorizontal = sorted-to (forward_order 8 0) (orders Moore ReflectHorizontal) (refl, (refl, tt))
order-positions Moore Rotate8 = sorted-to (forward_order 8 0) (orders Moore Rotate8) (refl, (refl, (refl, (refl, (refl, (refl, (refl, (refl, tt))))))))
order-positions Moore Rotate8Reflect = sorted-to (forward_order 8 0) (orders Moore Rotate8Reflect)
    (refl, (refl, (refl, (refl, (refl, (refl, (refl, (refl, (refl, (refl, (refl, (refl, (refl, (refl, (refl, (refl, tt))))))))))))))))
order-positions Hexagonal Rotate2 = sorted-to (forward_order 6 0) (orders Hexagonal Rotate2) (refl, (refl, tt))
order-positions Hexagonal Rotate3 = sorted-to (forward_order 6 0) (orders Hexagonal Rotate3) (refl, (refl, (refl, tt)))
order-positions Hexagonal Rotate6 = sorted-to (forward_order 6 0) (orders Hexagonal Rotate6) (refl, (refl, (refl, (refl, (refl, (refl, tt))))))
order-positions Hexagonal Rotate6Reflect = sorted-to (forward_order 6 0) (orders Hexagonal Rotate6Reflect)
    (refl, (refl, (refl, (refl, (refl, (refl, (refl, (refl, (refl, (refl, (refl, (refl, tt))))))))))))
order-positions OneDimensional Reflect = sorted-to (forward_order 2 0) (orders OneDimensional Reflect) (refl, (refl, tt))
order-positions h s = tt
