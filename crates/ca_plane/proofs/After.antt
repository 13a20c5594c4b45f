-- Planes after n generations: what a cell then depends on, moves, sums, and what stays empty.
use Rattle.std.proofs.Common.{◌≡◌, ℕ, zero, suc, ◌+◌, List, refl, ap, ◌∙◌, arith}
use Rattle.std.specs.Prelude.{ℤ, pos, ◌+ℤ◌, ◌-ℤ◌, replicate}
use Rattle.std.proofs.lemmas.Int.{ints}
use Rattle.ca_plane.specs.Prelude.{around, cells_after, IsWithin}

-- planes with the same nine cells round a place
pub around-same : (f g : ℤ → ℤ → ℕ) (x y : ℤ) → ((u v : ℤ) → IsWithin 1 x y u v → f u v ≡ g u v) → around f x y ≡ around g x y
around-same f g x y same =
    let nw = same (x -ℤ pos 1) (y -ℤ pos 1) (omega (arith, ints), omega (arith, ints), omega (arith, ints), omega (arith, ints)) in
    let n = same x (y -ℤ pos 1) (omega (arith, ints), omega (arith, ints), omega (arith, ints), omega (arith, ints)) in
    let ne = same (x +ℤ pos 1) (y -ℤ pos 1) (omega (arith, ints), omega (arith, ints), omega (arith, ints), omega (arith, ints)) in
    let w = same (x -ℤ pos 1) y (omega (arith, ints), omega (arith, ints), omega (arith, ints), omega (arith, ints)) in
    let here = same x y (omega (arith, ints), omega (arith, ints), omega (arith, ints), omega (arith, ints)) in
    let e = same (x +ℤ pos 1) y (omega (arith, ints), omega (arith, ints), omega (arith, ints), omega (arith, ints)) in
    let sw = same (x -ℤ pos 1) (y +ℤ pos 1) (omega (arith, ints), omega (arith, ints), omega (arith, ints), omega (arith, ints)) in
    let s = same x (y +ℤ pos 1) (omega (arith, ints), omega (arith, ints), omega (arith, ints), omega (arith, ints)) in
    let se = same (x +ℤ pos 1) (y +ℤ pos 1) (omega (arith, ints), omega (arith, ints), omega (arith, ints), omega (arith, ints)) in
    cc

-- a place within n of one beside (x, y) is within n + 1 of (x, y)
IsWithin-round : (n : ℕ) (x y u v a b : ℤ) → IsWithin 1 x y u v → IsWithin n u v a b → IsWithin (suc n) x y a b
IsWithin-round n x y u v a b round within =
    (omega (arith, ints, round, within), omega (arith, ints, round, within), omega (arith, ints, round, within), omega (arith, ints, round, within))

-- planes with the same cells within n of (x, y) have the same state there after n generations
pub after_near : (next : List ℕ → ℕ) (p q : ℤ → ℤ → ℕ) (n : ℕ) (x y : ℤ) → ((u v : ℤ) → IsWithin n x y u v → p u v ≡ q u v) → cells_after next p n x y ≡ cells_after next q n x y
after_near next p q zero x y agree = agree x y (omega (arith, ints), omega (arith, ints), omega (arith, ints), omega (arith, ints))
after_near next p q (suc n) x y agree =
    ap next (around-same (cells_after next p n) (cells_after next q n) x y (λ u v round. after_near next p q n u v (λ a b within. agree a b (IsWithin-round n x y u v a b round within))))

-- planes with the same cells go on alike
pub after_same : (next : List ℕ → ℕ) (p q : ℤ → ℤ → ℕ) (n : ℕ) → ((u v : ℤ) → p u v ≡ q u v) → (x y : ℤ) → cells_after next p n x y ≡ cells_after next q n x y
after_same next p q n same x y = after_near next p q n x y (λ u v _. same u v)

-- the nine cells round a place of a plane that is seen from (a, b)
pub around-nine_states : (f : ℤ → ℤ → ℕ) (a b x y : ℤ) → around (λ u v. f (a +ℤ u) (b +ℤ v)) x y ≡ around f (a +ℤ x) (b +ℤ y)
around-nine_states f a b x y =
    let west : a +ℤ (x -ℤ pos 1) ≡ (a +ℤ x) -ℤ pos 1 = omega (arith, ints) in
    let east : a +ℤ (x +ℤ pos 1) ≡ (a +ℤ x) +ℤ pos 1 = omega (arith, ints) in
    let north : b +ℤ (y -ℤ pos 1) ≡ (b +ℤ y) -ℤ pos 1 = omega (arith, ints) in
    let south : b +ℤ (y +ℤ pos 1) ≡ (b +ℤ y) +ℤ pos 1 = omega (arith, ints) in
    rw (west, east, north, south) refl

-- a plane that is seen from (a, b) goes on as the plane does, seen from there
pub after_seen : (next : List ℕ → ℕ) (p : ℤ → ℤ → ℕ) (a b : ℤ) (n : ℕ) (x y : ℤ) → cells_after next (λ u v. p (a +ℤ u) (b +ℤ v)) n x y ≡ cells_after next p n (a +ℤ x) (b +ℤ y)
after_seen next p a b zero x y = refl
after_seen next p a b (suc n) x y =
    ap next (around-same (cells_after next (λ u v. p (a +ℤ u) (b +ℤ v)) n) (λ u v. cells_after next p n (a +ℤ u) (b +ℤ v)) x y (λ u v _. after_seen next p a b n u v)
    ∙ around-nine_states (cells_after next p n) a b x y)

-- n generations of the plane after m are m + n generations
pub after_again : (next : List ℕ → ℕ) (p : ℤ → ℤ → ℕ) (m n : ℕ) (x y : ℤ) → cells_after next (cells_after next p m) n x y ≡ cells_after next p (m + n) x y
after_again next p m zero x y =
    let none : m ≡ m + zero = omega arith in
    ap (λ k. cells_after next p k x y) none
after_again next p m (suc n) x y =
    let more : suc (m + n) ≡ m + suc n = omega arith in
    ap next (around-same (cells_after next (cells_after next p m) n) (cells_after next p (m + n)) x y (λ u v _. after_again next p m n u v)) ∙ ap (λ k. cells_after next p k x y) more

-- where nothing is born on an empty plane, it stays empty
pub after_none : (next : List ℕ → ℕ) → next (replicate 9 0) ≡ 0 → (n : ℕ) (x y : ℤ) → cells_after next (λ _ _. 0) n x y ≡ 0
after_none next quiet zero x y = refl
after_none next quiet (suc n) x y = ap next (around-same (cells_after next (λ _ _. 0) n) (λ _ _. 0) x y (λ u v _. after_none next quiet n u v)) ∙ quiet

-- and a place with nothing within n of it is empty after n generations
pub after_dead : (next : List ℕ → ℕ) (p : ℤ → ℤ → ℕ) → next (replicate 9 0) ≡ 0 → (n : ℕ) (x y : ℤ) → ((u v : ℤ) → IsWithin n x y u v → p u v ≡ 0) → cells_after next p n x y ≡ 0
after_dead next p quiet n x y dead = after_near next p (λ _ _. 0) n x y dead ∙ after_none next quiet n x y
