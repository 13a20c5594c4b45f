-- Lists that have the same elements, each as often: what holds of every order of one holds of every order of the other.
use Rattle.std.proofs.Common.{◌≡◌, ℕ, zero, suc, ◌+◌, ◌<◌, ◌≤◌, List, [], ◌∷◌, ◌++◌, map, length, Bool, true, ◌==◌, refl, sym, ◌∙◌, subst, arith, inl, inr}
use Rattle.std.specs.Prelude.{flat_map, remove, get_or, cond}
use Rattle.std.specs.List.{AllByRecursion, count_by}
use Rattle.std.proofs.lemmas.Bool.{cases_Bool}
use Rattle.std.proofs.lemmas.List.Sums.{sum_by-cons}
use Rattle.std.proofs.lemmas.Bool.Decides.{nat_tests}
use Rattle.ca_rule.specs.Prelude.{picks, every_order}

pub record Alike (xs ys : List ℕ) : Type 0 where
  pub counts : (p : ℕ → Bool) → count_by p xs ≡ count_by p ys

pub count-cons : (p : ℕ → Bool) (x : ℕ) (xs : List ℕ) → count_by p (x ∷ xs) ≡ cond (p x) 1 0 + count_by p xs
count-cons p x xs = sum_by-cons (λ y. cond (p y) 1 0) x xs

pub Alike-sym : (xs ys : List ℕ) → Alike xs ys → Alike ys xs
Alike-sym xs ys h = record { counts = λ p. sym (h.counts p) }

pub Alike-trans : (xs ys zs : List ℕ) → Alike xs ys → Alike ys zs → Alike xs zs
Alike-trans xs ys zs h k = record { counts = λ p. h.counts p ∙ k.counts p }

-- after one more element
pub Alike-cons : (x : ℕ) (xs ys : List ℕ) → Alike xs ys → Alike (x ∷ xs) (x ∷ ys)
Alike-cons x xs ys h = record { counts = λ p. omega (arith, h.counts p, count-cons p x xs, count-cons p x ys) }

pub Alike-uncons : (x : ℕ) (xs ys : List ℕ) → Alike (x ∷ xs) (x ∷ ys) → Alike xs ys
Alike-uncons x xs ys h = record { counts = λ p. omega (arith, h.counts p, count-cons p x xs, count-cons p x ys) }

Alike-swap : (x y : ℕ) (xs : List ℕ) → Alike (x ∷ y ∷ xs) (y ∷ x ∷ xs)
Alike-swap x y xs = record { counts = λ p. omega (arith, count-cons p x (y ∷ xs), count-cons p y xs, count-cons p y (x ∷ xs), count-cons p x xs) }

-- each element
module _ {X Y : Type 0} where
  pub each-map : (P : Y → Type 0) (f : X → Y) (xs : List X) → AllByRecursion (λ x. P (f x)) xs → AllByRecursion P (map f xs)
  each-map P f [] h = tt
  each-map P f (x ∷ xs) h = (h.0, each-map P f xs h.1)

  pub each-from_map : (P : Y → Type 0) (f : X → Y) (xs : List X) → AllByRecursion P (map f xs) → AllByRecursion (λ x. P (f x)) xs
  each-from_map P f [] h = tt
  each-from_map P f (x ∷ xs) h = (h.0, each-from_map P f xs h.1)

module _ {X : Type 0} where
  pub each-more : (P Q : X → Type 0) → ((x : X) → P x → Q x) → (xs : List X) → AllByRecursion P xs → AllByRecursion Q xs
  each-more P Q f [] h = tt
  each-more P Q f (x ∷ xs) h = (f x h.0, each-more P Q f xs h.1)

  each-append : (P : X → Type 0) (xs ys : List X) → AllByRecursion P xs → AllByRecursion P ys → AllByRecursion P (xs ++ ys)
  each-append P [] ys h k = k
  each-append P (x ∷ xs) ys h k = (h.0, each-append P xs ys h.1 k)

  each-front : (P : X → Type 0) (xs ys : List X) → AllByRecursion P (xs ++ ys) → AllByRecursion P xs
  each-front P [] ys h = tt
  each-front P (x ∷ xs) ys h = (h.0, each-front P xs ys h.1)

  each-back : (P : X → Type 0) (xs ys : List X) → AllByRecursion P (xs ++ ys) → AllByRecursion P ys
  each-back P [] ys h = h
  each-back P (x ∷ xs) ys h = each-back P xs ys h.1

module _ {X Y : Type 0} where
  each-flat_map : (P : Y → Type 0) (f : X → List Y) (xs : List X) → AllByRecursion (λ x. AllByRecursion P (f x)) xs → AllByRecursion P (flat_map f xs)
  each-flat_map P f [] h = tt
  each-flat_map P f (x ∷ xs) h = each-append P (f x) (flat_map f xs) h.0 (each-flat_map P f xs h.1)

  each-from_flat_map : (P : Y → Type 0) (f : X → List Y) (xs : List X) → AllByRecursion P (flat_map f xs) → AllByRecursion (λ x. AllByRecursion P (f x)) xs
  each-from_flat_map P f [] h = tt
  each-from_flat_map P f (x ∷ xs) h = (each-front P (f x) (flat_map f xs) h, each-from_flat_map P f xs (each-back P (f x) (flat_map f xs) h))

-- a pick with one more element among the others
abbrev with_first : ℕ → ℕ × List ℕ → ℕ × List ℕ
with_first x p = (p.0, x ∷ p.1)

-- an element and the others are the list
picks-alike : (xs : List ℕ) → AllByRecursion (λ q. Alike xs (q.0 ∷ q.1)) (picks xs)
picks-alike [] = tt
picks-alike (x ∷ xs) = (
  record { counts = λ p. refl },
  each-map (λ q. Alike (x ∷ xs) (q.0 ∷ q.1)) (with_first x) (picks xs)
      (each-more (λ q. Alike xs (q.0 ∷ q.1)) (λ q. Alike (x ∷ xs) (q.0 ∷ x ∷ q.1))
      (λ q h. Alike-trans (x ∷ xs) (x ∷ q.0 ∷ q.1) (q.0 ∷ x ∷ q.1) (Alike-cons x xs (q.0 ∷ q.1) h) (Alike-swap x q.0 q.1)) (picks xs) (picks-alike xs)),
)

count-all : (xs : List ℕ) → count_by (λ x. true) xs ≡ length xs
count-all [] = refl
count-all (x ∷ xs) = omega (arith, count-all xs, count-cons (λ y. true) x xs)

pub length-alike : (xs ys : List ℕ) → Alike xs ys → length xs ≡ length ys
length-alike xs ys h = sym (count-all xs) ∙ h.counts (λ x. true) ∙ count-all ys

-- each order of a list has its elements
pub orders-alike : (n : ℕ) (xs : List ℕ) → length xs ≡ n → AllByRecursion (λ g. Alike xs g) (every_order n xs)
orders-alike zero [] e = (record { counts = λ p. refl }, tt)
orders-alike zero (x ∷ xs) e = absurd (omega arith)
orders-alike (suc n) xs e =
    each-flat_map (λ g. Alike xs g) (λ q. map (λ g. q.0 ∷ g) (every_order n q.1)) (picks xs)
    (each-more (λ q. Alike xs (q.0 ∷ q.1)) (λ q. AllByRecursion (λ g. Alike xs g) (map (λ g. q.0 ∷ g) (every_order n q.1)))
    (λ q h. each-map (λ g. Alike xs g) (λ g. q.0 ∷ g) (every_order n q.1)
    (each-more (λ g. Alike q.1 g) (λ g. Alike xs (q.0 ∷ g)) (λ g k. Alike-trans xs (q.0 ∷ q.1) (q.0 ∷ g) h (Alike-cons q.0 q.1 g k)) (every_order n q.1)
    (orders-alike n q.1 (omega (arith, length-alike xs (q.0 ∷ q.1) h))))) (picks xs) (picks-alike xs))

-- an element that is in a list is picked
pick-found : (Q : ℕ × List ℕ → Type 0) (xs : List ℕ) (x : ℕ) → 1 ≤ count_by (λ y. y == x) xs → AllByRecursion Q (picks xs)
    → (r : List ℕ) × Q (x, r) × Alike xs (x ∷ r)
pick-found Q [] x some all = absurd (omega arith)
pick-found Q (y ∷ ys) x some all =
    elim (cases_Bool (y == x)) [
      | inl e ↦ let same : y ≡ x = grind (arith, nat_tests) in (ys, subst (λ z. Q (z, ys)) same all.0, subst (λ z. Alike (y ∷ ys) (z ∷ ys)) same (record { counts = λ p. refl }))
      | inr e ↦ let none : cond {A = ℕ} (y == x) 1 0 ≡ 0 = rw e refl in
          let more : 1 ≤ count_by (λ z. z == x) ys = omega (arith, some, none, count-cons (λ z. z == x) y ys) in
          let found = pick-found (λ q. Q (q.0, y ∷ q.1)) ys x more (each-from_map Q (with_first y) (picks ys) all.1) in
          (y ∷ found.0, found.1, Alike-trans (y ∷ ys) (y ∷ x ∷ found.0) (x ∷ y ∷ found.0) (Alike-cons y ys (x ∷ found.0) found.2) (Alike-swap y x found.0))
    ]

count-first : (x : ℕ) (xs : List ℕ) → 1 ≤ count_by (λ y. y == x) (x ∷ xs)
count-first x xs =
    let same : (x == x) ≡ true = grind (arith, nat_tests) in
    let one : cond {A = ℕ} (x == x) 1 0 ≡ 1 = rw same refl in omega (arith, one, count-cons (λ y. y == x) x xs)

-- each list with its elements is one of its orders
pub orders-hold : (n : ℕ) (P : List ℕ → Type 0) (xs g : List ℕ) → length g ≡ n → Alike xs g → AllByRecursion P (every_order n xs) → P g
orders-hold zero P xs [] e h all = all.0
orders-hold zero P xs (x ∷ g) e h all = absurd (omega arith)
orders-hold (suc n) P xs [] e h all = absurd (omega arith)
orders-hold (suc n) P xs (x ∷ g) e h all =
    let some : 1 ≤ count_by (λ y. y == x) xs = subst (λ k. 1 ≤ k) (sym (h.counts (λ y. y == x))) (count-first x g) in
    let found = pick-found (λ q. AllByRecursion P (map (λ k. q.0 ∷ k) (every_order n q.1))) xs x some
    (each-from_flat_map P (λ q. map (λ k. q.0 ∷ k) (every_order n q.1)) (picks xs) all) in
    orders-hold n (λ k. P (x ∷ k)) found.0 g (omega arith)
    (Alike-uncons x found.0 g (Alike-trans (x ∷ found.0) xs (x ∷ g) (Alike-sym xs (x ∷ found.0) found.2) h))
    (each-from_map P (λ k. x ∷ k) (every_order n found.0) found.1)

-- without an element
pub remove-alike : (xs : List ℕ) (i : ℕ) → i < length xs → Alike xs (get_or xs i 0 ∷ remove xs i)
remove-alike [] i h = absurd (omega arith)
remove-alike (x ∷ xs) zero h = record { counts = λ p. refl }
remove-alike (x ∷ xs) (suc i) h =
    Alike-trans (x ∷ xs) (x ∷ get_or xs i 0 ∷ remove xs i) (get_or xs i 0 ∷ x ∷ remove xs i) (Alike-cons x xs (get_or xs i 0 ∷ remove xs i) (remove-alike xs i (omega arith)))
    (Alike-swap x (get_or xs i 0) (remove xs i))
