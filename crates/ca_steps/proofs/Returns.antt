-- Pictures that are moved, and times at which a picture is back.
use Rattle.std.proofs.Common.{◌≡◌, ℕ, zero, suc, ◌+◌, ◌*◌, ◌-◌, ◌/◌, ◌%◌, ◌≤◌, ◌<◌, List, sym, ap, ap₂, ◌∙◌, subst, inl, inr, arith}
use Rattle.std.specs.Prelude.{ℤ, pos, neg_ℤ, ◌+ℤ◌, ◌-ℤ◌, ◌*ℤ◌}
use Rattle.std.specs.Int.{◌∣◌}
use Rattle.std.proofs.Math.Nat.{dvd_refl, dvd-add, zero-mul, suc-mul, dvd_of_mod-eq-zero, div-add-mod, mod-lt, mul_comm, mul-le-mul}
use Rattle.std.proofs.lemmas.Nat.{le-div}
use Rattle.std.proofs.Math.IntN.{suc_ℤ-*ℤ, zero-*ℤ}
use Rattle.std.proofs.lemmas.Bool.{cases_eq, cases_lt}
use Rattle.std.proofs.lemmas.Int.{ints}
use Rattle.ca_plane.specs.Prelude.{Picture, cell, IsSame, shifted, IsLive, after, IsAfter}
use Rattle.ca_plane.proofs.Shifts.{cell-shifted}
use Rattle.ca_steps.specs.Prelude.{IsBackInPlace, IsBackAnywhere, IsLeast, IsPrime}
use Rattle.ca_steps.proofs.Primes.{times_by_prime}
use Rattle.ca_plane.proofs.After.{after_same, after_seen, after_again}
use Rattle.ca_steps.proofs.Vectors.{no_vector}

-- ---- pictures that are moved

-- a moved picture shows after n generations what the picture shows then, moved
pub after-shifted : (next : List ℕ → ℕ) (p : Picture) (dx dy : ℤ) (n : ℕ) (x y : ℤ) → after next (shifted p dx dy) n x y ≡ after next p n (x -ℤ dx) (y -ℤ dy)
after-shifted next p dx dy n x y =
    after_same next (cell (shifted p dx dy)) (λ u v. cell p (neg_ℤ dx +ℤ u) (neg_ℤ dy +ℤ v)) n
    (λ u v. cell-shifted p dx dy u v ∙ ap₂ (cell p) (back dx u) (back dy v)) x y
    ∙ after_seen next (cell p) (neg_ℤ dx) (neg_ℤ dy) n x y ∙ sym (ap₂ (after next p n) (back dx x) (back dy y))
  where
    back : (d u : ℤ) → u -ℤ d ≡ neg_ℤ d +ℤ u
    back d u = omega (arith, ints)

-- the same, of the place after the move
pub after_moved : (next : List ℕ → ℕ) (p : Picture) (dx dy : ℤ) (n : ℕ) (x y : ℤ) → after next (shifted p dx dy) n (x +ℤ dx) (y +ℤ dy) ≡ after next p n x y
after_moved next p dx dy n x y =
    let bx : (x +ℤ dx) -ℤ dx ≡ x = omega (arith, ints) in
    let by : (y +ℤ dy) -ℤ dy ≡ y = omega (arith, ints) in
    after-shifted next p dx dy n (x +ℤ dx) (y +ℤ dy) ∙ ap₂ (after next p n) bx by

-- ---- generations that add up

-- n generations of the picture after m are m + n generations
pub after_stands : (next : List ℕ → ℕ) (p q : Picture) (m n : ℕ) → IsAfter next p m q → (x y : ℤ) → after next q n x y ≡ after next p (m + n) x y
after_stands next p q m n stands x y =
    after_same next (cell q) (after next p m) n (λ u v. sym (stands u v)) x y ∙ after_again next (cell p) m n x y

-- where a picture is back by a vector after m generations, m + n generations are n, moved by that vector
pub after_back : (next : List ℕ → ℕ) (p : Picture) (m n : ℕ) (dx dy : ℤ) → IsAfter next p m (shifted p dx dy) → (x y : ℤ) → after next p (m + n) x y ≡ after next p n (x -ℤ dx) (y -ℤ dy)
after_back next p m n dx dy back x y = sym (after_stands next p (shifted p dx dy) m n back x y) ∙ after-shifted next p dx dy n x y

-- ---- times at which a picture is back

-- a picture that is back after m generations and after m + n is back after n: in its place,
pub in_place_between : (next : List ℕ → ℕ) (p : Picture) (m n : ℕ) → IsAfter next p m p → IsAfter next p (m + n) p → IsAfter next p n p
in_place_between next p m n back again x y = after_stands next p p m n back x y ∙ again x y

-- and moved by the difference of the vectors
pub moved_between : (next : List ℕ → ℕ) (p : Picture) (m n : ℕ) (dx dy u v : ℤ) → IsAfter next p m (shifted p dx dy) → IsAfter next p (m + n) (shifted p u v) → IsAfter next p n (shifted p (u -ℤ dx) (v -ℤ dy))
moved_between next p m n dx dy u v back again x y =
    let bx : x ≡ (x +ℤ dx) -ℤ dx = omega (arith, ints) in
    let by : y ≡ (y +ℤ dy) -ℤ dy = omega (arith, ints) in
    let ax : (x +ℤ dx) -ℤ u ≡ x -ℤ (u -ℤ dx) = omega (arith, ints) in
    let ay : (y +ℤ dy) -ℤ v ≡ y -ℤ (v -ℤ dy) = omega (arith, ints) in
    ap₂ (after next p n) bx by ∙ sym (after_back next p m n dx dy back (x +ℤ dx) (y +ℤ dy)) ∙ again (x +ℤ dx) (y +ℤ dy)
    ∙ cell-shifted p u v (x +ℤ dx) (y +ℤ dy) ∙ ap₂ (cell p) ax ay ∙ sym (cell-shifted p (u -ℤ dx) (v -ℤ dy) x y)

-- what holds of the difference of two times, where there is one, holds at multiples of its least time only
multiples : (IsTime : ℕ → Type 0) (m : ℕ) → 1 ≤ m → IsLeast IsTime m → ((n : ℕ) → 1 ≤ n → IsTime (m + n) → IsTime n) → (limit n : ℕ) → n ≤ limit → IsTime n → m ∣ n
multiples IsTime m some least between zero n within time =
    let low : m ≤ n = least.least n time in
    absurd (omega arith)
multiples IsTime m some least between (suc limit) n within time =
    let low : m ≤ n = least.least n time in
    let split : n ≡ m + (n - m) = omega arith in
    elim (cases_eq (n - m) 0) [
      | inl none ↦
          let same : m ≡ n = omega arith in
          subst (λ t. m ∣ t) same (dvd_refl m)
      | inr more ↦
          subst (λ t. m ∣ t) (sym split)
          (dvd-add m (dvd_refl m) (multiples IsTime m some least between limit (n - m) (omega arith) (between (n - m) (omega arith) (subst IsTime split time))))
    ]

-- so a picture is back in its place at multiples of the least such time only
pub multiples_in_place : (next : List ℕ → ℕ) (p : Picture) (m n : ℕ) → IsLeast (IsBackInPlace next p) m → IsBackInPlace next p n → m ∣ n
multiples_in_place next p m n least back =
    multiples (IsBackInPlace next p) m least.one.0 least (λ r some again. (some, in_place_between next p m r least.one.1 again.1)) n n (omega arith) back

-- and the same of times at which it's back by some vector
pub multiples_anywhere : (next : List ℕ → ℕ) (p : Picture) (m n : ℕ) → IsLeast (IsBackAnywhere next p) m → IsBackAnywhere next p n → m ∣ n
multiples_anywhere next p m n least back =
    let first = least.one in
    multiples (IsBackAnywhere next p) m first.0 least
    (λ r some again. (some, again.1 -ℤ first.1, again.2 -ℤ first.2, moved_between next p m r first.1 first.2 again.1 again.2 first.3 again.3)) n n (omega arith) back

-- after a multiple of the generations after which a picture is back in its place it's there again
in_place_times : (next : List ℕ → ℕ) (p : Picture) (m k : ℕ) → IsAfter next p m p → IsAfter next p (k * m) p
in_place_times next p m zero back x y = ap (λ j. after next p j x y) (zero-mul m)
in_place_times next p m (suc k) back x y =
    let sum : suc k * m ≡ m + k * m = rw (suc-mul k m) (omega arith) in
    ap (λ j. after next p j x y) sum ∙ sym (after_stands next p p m (k * m) back x y) ∙ in_place_times next p m k back x y

-- ---- the vector

-- one more of a number is that number more
one_more : (k : ℕ) (d : ℤ) → pos (suc k) *ℤ d ≡ (pos k *ℤ d) +ℤ d
one_more k d = suc_ℤ-*ℤ (pos k) d

-- a picture that is back by a vector after m generations is back by k times the vector after k times m
pub back_times : (next : List ℕ → ℕ) (p : Picture) (m k : ℕ) (dx dy : ℤ) → IsAfter next p m (shifted p dx dy) → IsAfter next p (k * m) (shifted p (pos k *ℤ dx) (pos k *ℤ dy))
back_times next p m zero dx dy back x y =
    let ax : x ≡ x -ℤ (pos zero *ℤ dx) = rw (zero-*ℤ dx) (omega (arith, ints)) in
    let ay : y ≡ y -ℤ (pos zero *ℤ dy) = rw (zero-*ℤ dy) (omega (arith, ints)) in
    ap (λ j. after next p j x y) (zero-mul m) ∙ ap₂ (cell p) ax ay ∙ sym (cell-shifted p (pos zero *ℤ dx) (pos zero *ℤ dy) x y)
back_times next p m (suc k) dx dy back x y =
    let ax : (x -ℤ dx) -ℤ (pos k *ℤ dx) ≡ x -ℤ (pos (suc k) *ℤ dx) = rw (one_more k dx) (omega (arith, ints)) in
    let ay : (y -ℤ dy) -ℤ (pos k *ℤ dy) ≡ y -ℤ (pos (suc k) *ℤ dy) = rw (one_more k dy) (omega (arith, ints)) in
    let sum : suc k * m ≡ m + k * m = rw (suc-mul k m) (omega arith) in
    ap (λ j. after next p j x y) sum ∙ after_back next p m (k * m) dx dy back x y ∙ back_times next p m k dx dy back (x -ℤ dx) (y -ℤ dy)
    ∙ cell-shifted p (pos k *ℤ dx) (pos k *ℤ dy) (x -ℤ dx) (y -ℤ dy) ∙ ap₂ (cell p) ax ay ∙ sym (cell-shifted p (pos (suc k) *ℤ dx) (pos (suc k) *ℤ dy) x y)

-- a live picture that is the same picture moved by two vectors is moved by one
one_vector : (p : Picture) (dx dy u v : ℤ) → IsLive p → IsSame (shifted p dx dy) (shifted p u v) → (u ≡ dx) × (v ≡ dy)
one_vector p dx dy u v live same =
    let none = no_vector p (u -ℤ dx) (v -ℤ dy) live (λ x y.
    let bx : x ≡ (x +ℤ dx) -ℤ dx = omega (arith, ints) in
    let by : y ≡ (y +ℤ dy) -ℤ dy = omega (arith, ints) in
    let ax : (x +ℤ dx) -ℤ u ≡ x -ℤ (u -ℤ dx) = omega (arith, ints) in
    let ay : (y +ℤ dy) -ℤ v ≡ y -ℤ (v -ℤ dy) = omega (arith, ints) in
    ap₂ (cell p) bx by ∙ sym (cell-shifted p dx dy (x +ℤ dx) (y +ℤ dy)) ∙ same (x +ℤ dx) (y +ℤ dy) ∙ cell-shifted p u v (x +ℤ dx) (y +ℤ dy)
    ∙ ap₂ (cell p) ax ay ∙ sym (cell-shifted p (u -ℤ dx) (v -ℤ dy) x y)) in
    (omega (arith, ints, none.0), omega (arith, ints, none.1))

-- so its vector after k times m generations is k times the one after m
pub vector_times : (next : List ℕ → ℕ) (p : Picture) (m k : ℕ) (dx dy u v : ℤ) → IsLive p → IsAfter next p m (shifted p dx dy) → IsAfter next p (k * m) (shifted p u v) → (u ≡ pos k *ℤ dx) × (v ≡ pos k *ℤ dy)
vector_times next p m k dx dy u v live back again =
    one_vector p (pos k *ℤ dx) (pos k *ℤ dy) u v live (λ x y. sym (back_times next p m k dx dy back x y) ∙ again x y)

-- ---- the least time, by primes

-- times, each at least 1, whose multiples and whose differences are times too
module _ (IsTime : ℕ → Type 0) (some : (n : ℕ) → IsTime n → 1 ≤ n) (times : (m k : ℕ) → 1 ≤ k → IsTime m → IsTime (k * m)) (between : (m n : ℕ) → 1 ≤ n → IsTime m → IsTime (m + n) → IsTime n) where
  -- where there's one before another, there's one at a divisor of that
  at_divisor : (n : ℕ) → IsTime n → (limit k : ℕ) → k ≤ limit → IsTime k → k < n → (m : ℕ) × IsTime m × (m ∣ n) × (m < n)
  at_divisor n time zero k within early less = let least = some k early in absurd (omega (arith, within, least))
  at_divisor n time (suc limit) k within early less =
      let least = some k early in
      elim (cases_eq (n % k) 0) [
        | inl whole ↦ (k, early, dvd_of_mod-eq-zero k whole, less)
        | inr rest ↦
            let split : n ≡ (n / k) * k + n % k = sym (div-add-mod n k) ∙ ap (λ a. a + n % k) (mul_comm k (n / k)) in
            let below : n % k < k = mod-lt n (omega (arith, least)) in
            let once : 1 ≤ n / k = le-div 1 n k (omega (arith, least)) (omega (arith, less)) in
            at_divisor n time limit (n % k) (omega (arith, below, within)) (between ((n / k) * k) (n % k) (omega (arith, rest)) (times k (n / k) once early) (subst IsTime split time)) (omega (arith, below, less))
      ]

  -- one that isn't after n divided by a prime
  pub least_by_primes : (n : ℕ) → IsTime n → ((q : ℕ) → IsPrime q → q ∣ n → IsTime (n / q) → ⊥) → IsLeast IsTime n
  least_by_primes n time none = record {
    one = time;
    least = λ k early.
        elim (cases_lt k n) [
          | inr from ↦ from
          | inl less ↦
              let found = at_divisor n time k k (omega arith) early less in
              let by = times_by_prime n found.0 (some found.0 found.1) found.2 found.3 in
              absurd (none by.0 by.1 by.2 (subst IsTime by.5 (times found.0 by.3 by.4 found.1)))
        ];
  }

-- a multiple of a number that is at least 1
many : (m k : ℕ) → 1 ≤ m → 1 ≤ k → 1 ≤ k * m
many m k some once = let most : 1 * 1 ≤ k * m = mul-le-mul once some in omega (arith, most)

-- so of times at which a picture is back in its place,
pub least_in_place : (next : List ℕ → ℕ) (p : Picture) (n : ℕ) → IsBackInPlace next p n → ((q : ℕ) → IsPrime q → q ∣ n → IsBackInPlace next p (n / q) → ⊥) → IsLeast (IsBackInPlace next p) n
least_in_place next p =
    least_by_primes (IsBackInPlace next p) (λ n back. back.0) (λ m k once back. (many m k back.0 once, in_place_times next p m k back.1))
    (λ m n once back again. (once, in_place_between next p m n back.1 again.1))

-- and of those at which it's back by some vector
pub least_anywhere : (next : List ℕ → ℕ) (p : Picture) (n : ℕ) → IsBackAnywhere next p n → ((q : ℕ) → IsPrime q → q ∣ n → IsBackAnywhere next p (n / q) → ⊥) → IsLeast (IsBackAnywhere next p) n
least_anywhere next p =
    least_by_primes (IsBackAnywhere next p) (λ n back. back.0) (λ m k once back. (many m k back.0 once, pos k *ℤ back.1, pos k *ℤ back.2, back_times next p m k back.1 back.2 back.3))
    (λ m n once back again. (once, again.1 -ℤ back.1, again.2 -ℤ back.2, moved_between next p m n back.1 back.2 again.1 again.2 back.3 again.3))
