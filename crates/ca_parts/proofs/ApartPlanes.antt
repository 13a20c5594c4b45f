-- Planes that are apart go on each as if it were alone.
use Rattle.std.proofs.Common.{◌≡◌, ◌≢◌, ℕ, zero, suc, ◌+◌, ◌<◌, List, [], ◌∷◌, get_or, ◌⊎◌, inl, inr, refl, ap, ◌∙◌, arith}
use Rattle.std.specs.Prelude.{ℤ, replicate}
use Rattle.std.proofs.lemmas.Bool.{cases_eq}
use Rattle.ca_plane.specs.Prelude.{around, cells_after}
use Rattle.ca_plane.proofs.After.{around-same, after_same}
use Rattle.ca_parts.specs.Prelude.{AreApart}

-- after each number of generations below n the two planes are apart, when each of them goes on alone
abbrev pub StayApart : (List ℕ → ℕ) → ℕ → (ℤ → ℤ → ℕ) → (ℤ → ℤ → ℕ) → Type 0
StayApart next n f g = (m : ℕ) → m < n → AreApart (cells_after next f m) (cells_after next g m)

-- the two planes together
abbrev pub both : (ℤ → ℤ → ℕ) → (ℤ → ℤ → ℕ) → ℤ → ℤ → ℕ
both f g x y = f x y + g x y

-- where the first plane is live, the other has the same state
abbrev pub Within : (ℤ → ℤ → ℕ) → (ℤ → ℤ → ℕ) → Type 0
Within f g = (x y : ℤ) → f x y ≢ 0 → f x y ≡ g x y

-- ---- one window

-- nine zeros, added to nine numbers, change none
sums-none : (a b c d e f g h i a' b' c' d' e' f' g' h' i' : ℕ) → a ∷ b ∷ c ∷ d ∷ e ∷ f ∷ g ∷ h ∷ i ∷ [] ≡ replicate 9 0
    → (a + a') ∷ (b + b') ∷ (c + c') ∷ (d + d') ∷ (e + e') ∷ (f + f') ∷ (g + g') ∷ (h + h') ∷ (i + i') ∷ []
    ≡ a' ∷ b' ∷ c' ∷ d' ∷ e' ∷ f' ∷ g' ∷ h' ∷ i' ∷ []
sums-none a b c d e f g h i a' b' c' d' e' f' g' h' i' none =
    let za : a + a' ≡ a' = omega (arith, ap (λ l. get_or l 0 0) none) in
    let zb : b + b' ≡ b' = omega (arith, ap (λ l. get_or l 1 0) none) in
    let zc : c + c' ≡ c' = omega (arith, ap (λ l. get_or l 2 0) none) in
    let zd : d + d' ≡ d' = omega (arith, ap (λ l. get_or l 3 0) none) in
    let ze : e + e' ≡ e' = omega (arith, ap (λ l. get_or l 4 0) none) in
    let zf : f + f' ≡ f' = omega (arith, ap (λ l. get_or l 5 0) none) in
    let zg : g + g' ≡ g' = omega (arith, ap (λ l. get_or l 6 0) none) in
    let zh : h + h' ≡ h' = omega (arith, ap (λ l. get_or l 7 0) none) in
    let zi : i + i' ≡ i' = omega (arith, ap (λ l. get_or l 8 0) none) in
    cc

-- a window without live cells of f sees g alone
around-second : (f g : ℤ → ℤ → ℕ) (x y : ℤ) → around f x y ≡ replicate 9 0 → around (both f g) x y ≡ around g x y
around-second f g x y none = sums-none _ _ _ _ _ _ _ _ _ _ _ _ _ _ _ _ _ _ none

-- and one without live cells of g sees f alone
around-first : (f g : ℤ → ℤ → ℕ) (x y : ℤ) → around g x y ≡ replicate 9 0 → around (both f g) x y ≡ around f x y
around-first f g x y none = around-same (both f g) (both g f) x y (λ u v _. omega arith) ∙ around-second g f x y none

-- so the next states of planes that are apart are added
next-both : (next : List ℕ → ℕ) → next (replicate 9 0) ≡ 0 → (f g : ℤ → ℤ → ℕ) (x y : ℤ) → (around f x y ≡ replicate 9 0) ⊎ (around g x y ≡ replicate 9 0)
    → next (around (both f g) x y) ≡ next (around f x y) + next (around g x y)
next-both next quiet f g x y (inl none) =
    let still : next (around f x y) ≡ 0 = ap next none ∙ quiet in
    omega (arith, still, ap next (around-second f g x y none))
next-both next quiet f g x y (inr none) =
    let still : next (around g x y) ≡ 0 = ap next none ∙ quiet in
    omega (arith, still, ap next (around-first f g x y none))

-- a window without live cells of g has none of a plane within it
pub around-within : (f g : ℤ → ℤ → ℕ) (x y : ℤ) → Within f g → around g x y ≡ replicate 9 0 → around f x y ≡ replicate 9 0
around-within f g x y within none =
    let at : (u v : ℤ) → g u v ≡ 0 → f u v ≡ 0 = λ u v dead. elim (cases_eq (f u v) 0) [ inl e ↦ e | inr live ↦ within u v live ∙ dead ] in
    let za = at _ _ (ap (λ l. get_or l 0 0) none) in
    let zb = at _ _ (ap (λ l. get_or l 1 0) none) in
    let zc = at _ _ (ap (λ l. get_or l 2 0) none) in
    let zd = at _ _ (ap (λ l. get_or l 3 0) none) in
    let ze = at _ _ (ap (λ l. get_or l 4 0) none) in
    let zf = at _ _ (ap (λ l. get_or l 5 0) none) in
    let zg = at _ _ (ap (λ l. get_or l 6 0) none) in
    let zh = at _ _ (ap (λ l. get_or l 7 0) none) in
    let zi = at _ _ (ap (λ l. get_or l 8 0) none) in
    cc

-- ---- planes that are apart

-- the order of the two doesn't matter
pub AreApart-turned : (f g : ℤ → ℤ → ℕ) → AreApart f g → AreApart g f
AreApart-turned f g apart x y = elim (apart x y) [ inl e ↦ inr e | inr e ↦ inl e ]

-- planes with the same cells are apart too
pub AreApart-same : (f g f' g' : ℤ → ℤ → ℕ) → ((x y : ℤ) → f' x y ≡ f x y) → ((x y : ℤ) → g' x y ≡ g x y) → AreApart f g → AreApart f' g'
AreApart-same f g f' g' one two apart x y =
    elim (apart x y) [
      | inl e ↦ inl (around-same f' f x y (λ u v _. one u v) ∙ e)
      | inr e ↦ inr (around-same g' g x y (λ u v _. two u v) ∙ e)
    ]

-- and so are planes within them
pub AreApart-within : (f g f' g' : ℤ → ℤ → ℕ) → Within f' f → Within g' g → AreApart f g → AreApart f' g'
AreApart-within f g f' g' one two apart x y = elim (apart x y) [ inl e ↦ inl (around-within f' f x y one e) | inr e ↦ inr (around-within g' g x y two e) ]

-- what is apart from two planes is apart from both together
AreApart-both : (f g h : ℤ → ℤ → ℕ) → AreApart f g → AreApart f h → AreApart f (both g h)
AreApart-both f g h one two x y =
    elim (one x y) [
      | inl e ↦ inl e
      | inr e ↦ elim (two x y) [ inl d ↦ inl d | inr d ↦ inr (around-second g h x y e ∙ d) ]
    ]

-- no place is live in both
pub one_live : (f g : ℤ → ℤ → ℕ) (x y : ℤ) → AreApart f g → f x y ≢ 0 → g x y ≢ 0 → ⊥
one_live f g x y apart a b = elim (apart x y) [ inl e ↦ a (ap (λ l. get_or l 4 0) e) | inr e ↦ b (ap (λ l. get_or l 4 0) e) ]

-- ---- over the generations

-- as long as planes are apart they go on each as if it were alone
pub after_both : (next : List ℕ → ℕ) → next (replicate 9 0) ≡ 0 → (f g : ℤ → ℤ → ℕ) (n : ℕ) → StayApart next n f g
    → (x y : ℤ) → cells_after next (both f g) n x y ≡ cells_after next f n x y + cells_after next g n x y
after_both next quiet f g zero apart x y = refl
after_both next quiet f g (suc n) apart x y =
    ap next (around-same (cells_after next (both f g) n) (both (cells_after next f n) (cells_after next g n)) x y
    (λ u v _. after_both next quiet f g n (λ m low. apart m (omega arith)) u v))
    ∙ next-both next quiet (cells_after next f n) (cells_after next g n) x y (apart n (omega arith) x y)

-- what stays apart from two planes, which stay apart, stays apart from both together
pub StayApart-both : (next : List ℕ → ℕ) → next (replicate 9 0) ≡ 0 → (n : ℕ) (f g h : ℤ → ℤ → ℕ) → StayApart next n f g → StayApart next n f h → StayApart next n g h → StayApart next n f (both g h)
StayApart-both next quiet n f g h fg fh gh m low =
    AreApart-same (cells_after next f m) (both (cells_after next g m) (cells_after next h m)) (cells_after next f m) (cells_after next (both g h) m)
    (λ x y. refl) (after_both next quiet g h m (λ k below. gh k (omega arith)))
    (AreApart-both (cells_after next f m) (cells_after next g m) (cells_after next h m) (fg m low) (fh m low))

-- planes with the same cells stay apart too
pub StayApart-same : (next : List ℕ → ℕ) (n : ℕ) (f g g' : ℤ → ℤ → ℕ) → ((x y : ℤ) → g' x y ≡ g x y) → StayApart next n f g → StayApart next n f g'
StayApart-same next n f g g' same apart m low =
    AreApart-same (cells_after next f m) (cells_after next g m) (cells_after next f m) (cells_after next g' m) (λ x y. refl) (after_same next g' g m same) (apart m low)
