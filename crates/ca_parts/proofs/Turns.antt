-- Turns of two parts, each of which goes a step further after each of its periods.
use Rattle.std.proofs.Common.{◌≡◌, ℕ, suc, ◌+◌, ◌-◌, ◌*◌, ◌/◌, ◌%◌, ◌^◌, ◌<◌, ◌≤◌, Bool, true, false, sym, ap, ◌∙◌, arith, to_z, of_z}
use Rattle.std.specs.Prelude.{ℤ, pos, negsuc, neg_ℤ, ◌+ℤ◌, ◌-ℤ◌, ◌*ℤ◌, ◌≤ℤ◌, ◌<ℤ◌, ◌↔◌, IsTrue}
use Rattle.std.specs.Int.Signed.{le_z}
use Rattle.std.specs.Int.{w128}
use Rattle.std.proofs.Math.Nat.{mul-le-mul_left, mul-le-mul_right, le_of_mul-le-mul_left, one-le-mul}
use Rattle.std.proofs.lemmas.Nat.{le-div, mod_below, div-add-mod'}
use Rattle.std.proofs.lemmas.Int.{ints, by_lt_z}
use Rattle.ca_parts.specs.declared.track.Track.{Track}
use Rattle.ca_parts.specs.inner.Apart.{IsShort}
use Rattle.ca_parts.specs.inner.Tracks.{IsTrack, IsCoordinate, IsLongWay, IsWide, IsLengthOf, way, LiesBefore, GoesNoFaster}

-- ---- a number of steps

-- a step more
pub times-plus : (m n : ℕ) (d : ℤ) → pos (m + n) *ℤ d ≡ (pos m *ℤ d) +ℤ (pos n *ℤ d)
times-plus m n (pos d) = omega (arith, ints)
times-plus m n (negsuc d) = omega (arith, ints)

-- ---- turns within some generations

-- as many turns as fit between two times, but for less than one
turns_off : (p N K a r s n k : ℕ) → N * p + r ≡ n → K * p + s ≡ k → r < p → s < p → N + a ≡ K → n ≤ k → (a * p ≤ (k - n) + p) × ((k - n) ≤ a * p + p)
turns_off p N K a r s n k first second below below_too more late =
    let product : (N + a) * p ≡ K * p = ap (λ m. m * p) more in
    (omega (arith, product), omega (arith, product))

record IsTurnsBetween (p n k a : ℕ) : Type 0 where
  more : n / p + a ≡ k / p
  most : a * p ≤ (k - n) + p
  least : (k - n) ≤ a * p + p

turns_between : (p n k : ℕ) → 1 ≤ p → n ≤ k → (a : ℕ) × IsTurnsBetween p n k a
turns_between p n k some late =
    let first : n / p * p + n % p ≡ n = div-add-mod' n p in
    let second : k / p * p + k % p ≡ k = div-add-mod' k p in
    let rises : n / p ≤ k / p = le-div (n / p) k p (omega arith) (omega (arith, first)) in
    let more : n / p + (k / p - n / p) ≡ k / p = omega (arith, rises) in
    let off = turns_off p (n / p) (k / p) (k / p - n / p) (n % p) (k % p) n k first second (mod_below n p (omega arith)) (mod_below k p (omega arith)) more late in
    (k / p - n / p, record { more = more; most = off.0; least = off.1 })

-- ---- two parts

-- in d generations the first part goes a steps of v1 - v2, and the other b steps of w1 - w2. Where the first is no faster, it
-- gains no more than a step of each
no_gain : (v1 v2 w1 w2 p q a b d : ℕ) → 1 ≤ p → 1 ≤ q → v1 * q + w2 * p ≤ w1 * p + v2 * q → a * p ≤ d + p → d ≤ a * p + p → b * q ≤ d + q → d ≤ b * q + q
    → a * v1 + b * w2 ≤ a * v2 + b * w1 + (v1 + v2 + w1 + w2)
no_gain v1 v2 w1 w2 p q a b d one some slow am al bm bl =
    let first : (a * p) * (v1 * q) ≤ (d + p) * (v1 * q) = mul-le-mul_right (v1 * q) am in
    let second : (b * q) * (w2 * p) ≤ (d + q) * (w2 * p) = mul-le-mul_right (w2 * p) bm in
    let third : d * (v2 * q) ≤ (a * p + p) * (v2 * q) = mul-le-mul_right (v2 * q) al in
    let fourth : d * (w1 * p) ≤ (b * q + q) * (w1 * p) = mul-le-mul_right (w1 * p) bl in
    let fifth : d * (v1 * q + w2 * p) ≤ d * (w1 * p + v2 * q) = mul-le-mul_left d slow in
    let all : (p * q) * (a * v1 + b * w2) ≤ (p * q) * (a * v2 + b * w1 + (v1 + v2 + w1 + w2)) = omega (arith, first, second, third, fourth, fifth) in
    le_of_mul-le-mul_left all (one-le-mul one some)

-- the same of integers, from turns i and j on
gains_little : (v w s t : ℤ) (p q i a j b d : ℕ) → 1 ≤ p → 1 ≤ q → (pos q *ℤ v) ≤ℤ (pos p *ℤ w) → a * p ≤ d + p → d ≤ a * p + p → b * q ≤ d + q → d ≤ b * q + q → IsLengthOf v s → IsLengthOf w t
    → ((pos (i + a) *ℤ v) +ℤ (pos j *ℤ w)) ≤ℤ (((pos (j + b) *ℤ w) +ℤ (pos i *ℤ v)) +ℤ (s +ℤ t))
gains_little (pos v) (pos w) s t p q i a j b d one some slow am al bm bl long long_too =
    let premise : v * q + 0 * p ≤ w * p + 0 * q = omega (arith, ints, slow) in
    let less = no_gain v 0 w 0 p q a b d one some premise am al bm bl in
    omega (arith, ints, less)
gains_little (pos v) (negsuc w) s t p q i a j b d one some slow am al bm bl long long_too =
    let premise : v * q + suc w * p ≤ 0 * p + 0 * q = omega (arith, ints, slow) in
    let less = no_gain v 0 0 (suc w) p q a b d one some premise am al bm bl in
    omega (arith, ints, less)
gains_little (negsuc v) (pos w) s t p q i a j b d one some slow am al bm bl long long_too =
    let premise : 0 * q + 0 * p ≤ w * p + suc v * q = omega (arith, ints, slow) in
    let less = no_gain 0 (suc v) w 0 p q a b d one some premise am al bm bl in
    omega (arith, ints, less)
gains_little (negsuc v) (negsuc w) s t p q i a j b d one some slow am al bm bl long long_too =
    let premise : 0 * q + suc w * p ≤ 0 * p + suc v * q = omega (arith, ints, slow) in
    let less = no_gain 0 (suc v) 0 (suc w) p q a b d one some premise am al bm bl in
    omega (arith, ints, less)

-- a gap that is as wide as that stays
stays_wide : (last first an ak bn bk s t : ℤ) → (ak +ℤ bn) ≤ℤ ((bk +ℤ an) +ℤ (s +ℤ t)) → ((last +ℤ an) +ℤ ((s +ℤ t) +ℤ pos 3)) ≤ℤ (first +ℤ bn) → ((last +ℤ ak) +ℤ pos 3) ≤ℤ (first +ℤ bk)
stays_wide last first an ak bn bk s t gain wide = omega (arith, ints, gain, wide)

pub LiesBefore-later : (one other : Track) (n k : ℕ) (s t : ℤ) → IsTrack one → IsTrack other → GoesNoFaster one other → IsLengthOf one.step s → IsLengthOf other.step t → LiesBefore one other n ((s +ℤ t) +ℤ pos 3) → n ≤ k → LiesBefore one other k (pos 3)
LiesBefore-later one other n k s t bounded bounded_too slow long long_too wide late =
    let (a, turns) = turns_between one.period n k bounded.some late in
    let (b, others) = turns_between other.period n k bounded_too.some late in
    let gain = gains_little one.step other.step s t one.period other.period (n / one.period) a (n / other.period) b (k - n) bounded.some bounded_too.some slow
    turns.most turns.least others.most others.least long long_too in
    let told = rw (turns.more, others.more) at gain in
    stays_wide one.last other.first (way one n) (way one k) (way other n) (way other k) s t told wide

-- ---- the same way over the same time

-- over a common number of generations both go the same way
same_way : (v w p q T U : ℕ) → 1 ≤ q → q * v ≡ p * w → T * p ≡ U * q → T * v ≡ U * w
same_way v w p q T U some alike common =
    let first : T * (q * v) ≡ T * (p * w) = ap (λ m. T * m) alike in
    let second : (T * p) * w ≡ (U * q) * w = ap (λ m. m * w) common in
    let both : q * (T * v) ≡ q * (U * w) = omega (arith, first, second) in
    let less : T * v ≤ U * w = le_of_mul-le-mul_left {k = q} (omega (arith, both)) (omega arith) in
    let more : U * w ≤ T * v = le_of_mul-le-mul_left {k = q} (omega (arith, both)) (omega arith) in
    omega (arith, less, more)

pub goes_same_way : (v w : ℤ) (p q T U : ℕ) → 1 ≤ p → 1 ≤ q → pos q *ℤ v ≡ pos p *ℤ w → T * p ≡ U * q → pos T *ℤ v ≡ pos U *ℤ w
goes_same_way (pos v) (pos w) p q T U one some alike common = ap pos (same_way v w p q T U some (omega (arith, ints, alike)) common)
goes_same_way (pos v) (negsuc w) p q T U one some alike common =
    let product : 1 ≤ p * suc w = one-le-mul one (omega arith) in
    absurd (omega (arith, ints, alike, product))
goes_same_way (negsuc v) (pos w) p q T U one some alike common =
    let product : 1 ≤ q * suc v = one-le-mul some (omega arith) in
    absurd (omega (arith, ints, alike, product))
goes_same_way (negsuc v) (negsuc w) p q T U one some alike common =
    let same : q * suc v ≡ p * suc w = omega (arith, ints, alike) in
    ap (λ m. neg_ℤ (pos m)) (same_way (suc v) (suc w) p q T U some same common)

-- ---- numbers of the code

-- a sum that is compared by its bits
pub test-sum : (e gap s a b : ℤ) → e ≡ a → s ≡ b → IsWide e → IsWide s → pos 0 ≤ℤ gap → gap ≤ℤ pos (2 ^ 64)
    → IsTrue (le_z (to_z w128 (of_z w128 (to_z w128 (of_z w128 e) +ℤ to_z w128 (of_z w128 gap)))) (to_z w128 (of_z w128 s))) ↔ ((a +ℤ gap) ≤ℤ b)
test-sum e gap s a b one two wide wide_too low high = (λ h. grind (arith, ints), λ h. grind (arith, ints))

-- the difference of two long ways, by their bits
pub difference-bits : (r s a b : ℤ) → r ≡ a → s ≡ b → IsLongWay r → IsLongWay s → to_z w128 (of_z w128 (to_z w128 (of_z w128 r) -ℤ to_z w128 (of_z w128 s))) ≡ a -ℤ b
difference-bits r s a b one two long long_too = omega (arith, ints)

-- a test doesn't hold and fail
true_and_false : (b : Bool) → b ≡ true → b ≡ false → ⊥
true_and_false b holds fails =
    let both : true ≡ false = sym holds ∙ fails in
    let none : ⊥ = cc in none

-- where neither of two tracks lies before the other, the way between them is short
pub IsShort-near : (a0 a1 b0 b1 u v : ℤ) (s t : Bool) → IsCoordinate a0 → IsCoordinate a1 → IsCoordinate b0 → IsCoordinate b1 → s ≡ false → t ≡ false
    → (((a1 +ℤ u) +ℤ pos 3) ≤ℤ (b0 +ℤ v) → s ≡ true) → (((b1 +ℤ v) +ℤ pos 3) ≤ℤ (a0 +ℤ u) → t ≡ true) → IsShort (u -ℤ v)
IsShort-near a0 a1 b0 b1 u v s t first last first_too last_too fails fails_too before behind =
    let one : (b0 +ℤ v) <ℤ ((a1 +ℤ u) +ℤ pos 3) = by_lt_z (b0 +ℤ v) ((a1 +ℤ u) +ℤ pos 3) (λ less. less) (λ more. absurd (true_and_false s (before more) fails)) in
    let two : (a0 +ℤ u) <ℤ ((b1 +ℤ v) +ℤ pos 3) = by_lt_z (a0 +ℤ u) ((b1 +ℤ v) +ℤ pos 3) (λ less. less) (λ more. absurd (true_and_false t (behind more) fails_too)) in
    (omega (arith, ints, one, two, first, last, first_too, last_too), omega (arith, ints, one, two, first, last, first_too, last_too))
