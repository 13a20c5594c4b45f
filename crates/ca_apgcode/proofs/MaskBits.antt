-- Bits of masks.
use Rattle.std.proofs.Common.{if◌then◌else◌, ◌≡◌, ℕ, zero, suc, ◌+◌, ◌-◌, ◌*◌, ◌/◌, ◌%◌, ◌^◌, ◌<◌, ◌≤◌, ◌↔◌, max, nat_eq, not, IsTrue, refl, sym, ap, ap₂, ◌∙◌, inl, inr, arith}
use Rattle.std.specs.Prelude.{bit_and, bit_or, bit_xor, count_ones}
use Rattle.std.specs.Int.Count.{ones, ones_in}
use Rattle.std.specs.Int.{bit_at, w64, trailing_zeros}
use Rattle.std.proofs.lemmas.Bool.{cases_lt, cases_eq, ne_eqb, eq-eqb, false≢true}
use Rattle.std.proofs.lemmas.Nat.{shr-shr, pow_pos, one_shl, and_le_l, xor_lt, mod-pow-add, ones_cat}
use Rattle.std.proofs.lemmas.Nat.Bits.{bit_at-zero, bit_at-suc, bit_at_lowest, bit_at-lt, bit_at_and, bit_at_or, bit_at_xor, bit_at_cat_low, bit_at_cat_high, bit_at_above, bit_at_ones, bit_at_ones_above, bit_at-pow_same, bit_at-pow_other, bit_at-trailing_zeros}
use Rattle.std.proofs.Math.Nat.{mod-lt, mod-eq_of_lt, pow-suc}
use Rattle.ca_apgcode.specs.inner.Sides.{IsOfFiveBefore, west_bit, east_bit, bits_without}
use Rattle.ca_apgcode.proofs.Heights.{pow_most}

-- ---- single bits

-- the bits of a number that another one doesn't have
pub rest_bit : (a b x : ℕ) → bit_at (bit_xor a (bit_and a b)) x ≡ bit_at a x - bit_at b x
rest_bit a b x = omega (arith, bit_at_xor a (bit_and a b) x, bit_at_and a b x, bit_at-lt a x, bit_at-lt b x)

-- of which there are no more
pub without_fits : (a b : ℕ) → a < 2 ^ 64 → bits_without a b < 2 ^ 64
without_fits a b fits = xor_lt 64 a (bit_and a b) fits (let most = and_le_l a b in omega (arith, most, fits))

-- a word that is doubled
doubled_bit : (n x : ℕ) → suc x < 64 → bit_at (n * 2 % 2 ^ 64) (suc x) ≡ bit_at n x
doubled_bit n x low =
    let parts : n * 2 % 2 ^ 64 / 2 ≡ n % 2 ^ 63 = omega arith in
    let whole : n ≡ n / 2 ^ 63 * 2 ^ 63 + n % 2 ^ 63 = omega arith in
    bit_at-suc (n * 2 % 2 ^ 64) x ∙ (ap (λ k. bit_at k x) parts ∙ (sym (bit_at_cat_low (n / 2 ^ 63) 63 (n % 2 ^ 63) x (omega (arith, low))) ∙ ap (λ k. bit_at k x) (sym whole)))

-- the bit before each, and 1 before the first
pub west_bits : (mask x : ℕ) → x < 64 → bit_at (bit_or (mask * 2 % 2 ^ 64) 1) x ≡ west_bit mask x
west_bits mask zero low =
    let even : bit_at (mask * 2 % 2 ^ 64) 0 ≡ 0 = omega arith in
    let odd : bit_at 1 0 ≡ 1 = refl in
    bit_at_or (mask * 2 % 2 ^ 64) 1 0 ∙ ap₂ max even odd
west_bits mask (suc x) low =
    let own = doubled_bit mask x low in
    let none : bit_at 1 (suc x) ≡ 0 = bit_at_above 1 1 (suc x) (omega arith) (omega arith) in
    let same : max (bit_at mask x) 0 ≡ bit_at mask x = omega arith in
    bit_at_or (mask * 2 % 2 ^ 64) 1 (suc x) ∙ (ap₂ max own none ∙ same)

-- the bit after each, and 1 after the last of `width` bits
pub east_bits : (mask width x : ℕ) → width ≤ 40 → x < width → bit_at (bit_or (mask / 2) (1 * 2 ^ width % 2 ^ 64 / 2)) x ≡ east_bit width mask x
east_bits mask zero x low within = absurd (omega (arith, within))
east_bits mask (suc width) x low within = elim (cases_eq (x + 1) (suc width)) [
  | inl last ↦
      let here : x ≡ width = omega (arith, last) in
      let one = ap (bit_at (2 ^ width)) here ∙ bit_at-pow_same width in
      let below = bit_at-lt (mask / 2) x in
      let most : max (bit_at (mask / 2) x) 1 ≡ 1 = omega (arith, below) in
      both ∙ (ap (max (bit_at (mask / 2) x)) one ∙ (most ∙ sym (ap (λ t. if t then 1 else bit_at mask (x + 1)) (eq-eqb (x + 1) (suc width) last))))
  | inr other ↦
      let none = bit_at-pow_other width x (λ e. other (let f : x + 1 ≡ suc width = omega (arith, e) in f)) in
      let next : bit_at (mask / 2) x ≡ bit_at mask (x + 1) = sym (bit_at-suc mask x) ∙ ap (bit_at mask) (let f : suc x ≡ x + 1 = omega arith in f) in
      let plain : max (bit_at (mask / 2) x) 0 ≡ bit_at (mask / 2) x = omega arith in
      both ∙ (ap (max (bit_at (mask / 2) x)) none ∙ (plain ∙ (next ∙ sym (ap (λ t. if t then 1 else bit_at mask (x + 1)) (ne_eqb (x + 1) (suc width) other)))))
]
  where
    top : 1 * 2 ^ suc width % 2 ^ 64 / 2 ≡ 2 ^ width
    top =
        let whole = one_shl (suc width) 64 (omega (arith, low)) in
        ap (λ n. n / 2) whole ∙ (ap (λ n. n / 2) (pow-suc 2 width) ∙ omega arith)

    both : bit_at (bit_or (mask / 2) (1 * 2 ^ suc width % 2 ^ 64 / 2)) x ≡ max (bit_at (mask / 2) x) (bit_at (2 ^ width) x)
    both = bit_at_or (mask / 2) (1 * 2 ^ suc width % 2 ^ 64 / 2) x ∙ ap (λ n. max (bit_at (mask / 2) x) (bit_at n x)) top

-- a number in front of a bit
pub bit_first : (n b : ℕ) → b < 2 → bit_at (2 * n + b) 0 ≡ b
bit_first n b low = let e : (2 * n + b) % 2 ≡ b = omega (arith, low) in bit_at_lowest (2 * n + b) ∙ e

pub bit_later : (n b x : ℕ) → b < 2 → bit_at (2 * n + b) (suc x) ≡ bit_at n x
bit_later n b x low = let e : (2 * n + b) / 2 ≡ n = omega (arith, low) in bit_at-suc (2 * n + b) x ∙ ap (λ k. bit_at k x) e

-- ---- five bits before a place

-- five ones
five_ones : (i : ℕ) → i < 5 → bit_at 31 i ≡ 1
five_ones i low = bit_at_ones 5 i low

no_sixth : (i : ℕ) → 5 ≤ i → bit_at 31 i ≡ 0
no_sixth i high = bit_at_ones_above 5 i high

-- at a place of the number that is shifted up and down
five_at : (end y : ℕ) → end ≤ 40 → bit_at (31 * 2 ^ end % 2 ^ 64 / 2 ^ 5) y ≡ bit_at (31 * 2 ^ end) (5 + y)
five_at end y low =
    let least : 2 ^ end ≤ 2 ^ 40 = pow_most end 40 low in
    let fits : 31 * 2 ^ end % 2 ^ 64 ≡ 31 * 2 ^ end = omega (arith, least) in
    ap (λ n. bit_at (n / 2 ^ 5) y) fits ∙ ap (λ n. n % 2) (shr-shr (31 * 2 ^ end) 5 y)

pub five_before : (end y : ℕ) → end ≤ 40 → (bit_at (31 * 2 ^ end % 2 ^ 64 / 2 ^ 5) y ≡ 1) ↔ IsOfFiveBefore end y
five_before end y low = (forth, back)
  where
    plain : (n : ℕ) → 31 * 2 ^ n ≡ 31 * 2 ^ n + 0
    plain n = omega arith

    below : 5 + y < end → bit_at (31 * 2 ^ end) (5 + y) ≡ 0
    below less = ap (λ n. bit_at n (5 + y)) (plain end) ∙ (bit_at_cat_low 31 end 0 (5 + y) less ∙ bit_at-zero (5 + y))

    above : end ≤ 5 + y → bit_at (31 * 2 ^ end) (5 + y) ≡ bit_at 31 (5 + y - end)
    above most = ap (λ n. bit_at n (5 + y)) (plain end) ∙ bit_at_cat_high 31 end 0 (5 + y) (pow_pos end) most

    forth : bit_at (31 * 2 ^ end % 2 ^ 64 / 2 ^ 5) y ≡ 1 → IsOfFiveBefore end y
    forth one = elim (cases_lt (5 + y) end) [
      | inl less ↦ let none = five_at end y low ∙ below less in absurd (omega (arith, one, none))
      | inr most ↦ elim (cases_lt y end) [
        | inl within ↦ record { low = omega (arith, most); high = within }
        | inr past ↦
            let none = five_at end y low ∙ (above most ∙ no_sixth (5 + y - end) (omega (arith, past, most))) in
            absurd (omega (arith, one, none))
      ]
    ]

    back : IsOfFiveBefore end y → bit_at (31 * 2 ^ end % 2 ^ 64 / 2 ^ 5) y ≡ 1
    back is =
        let least = is.low in
        let within = is.high in
        five_at end y low ∙ (above (omega (arith, least)) ∙ five_ones (5 + y - end) (omega (arith, within, least)))

-- ---- bits that two numbers share

-- a number that isn't 0 has a bit
pub some_bit : (n : ℕ) → 0 < n → n < 2 ^ 64 → (x : ℕ) × (bit_at n x ≡ 1)
some_bit n some low = let at = bit_at-trailing_zeros w64 n some low in (trailing_zeros w64 n, at.1)

pub shared_bit : (a b : ℕ) → bit_and a b < 2 ^ 64 → IsTrue (not (nat_eq (bit_and a b) 0)) ↔ ((y : ℕ) × (bit_at a y ≡ 1) × (bit_at b y ≡ 1))
shared_bit a b low = (forth, back)
  where
    forth : IsTrue (not (nat_eq (bit_and a b) 0)) → (y : ℕ) × (bit_at a y ≡ 1) × (bit_at b y ≡ 1)
    forth is = elim (cases_eq (bit_and a b) 0) [
      | inl none ↦ absurd (false≢true (rw (eq-eqb (bit_and a b) 0 none) at is))
      | inr other ↦
          let at = some_bit (bit_and a b) (omega (arith, other)) low in
          let both = bit_at_and a b at.0 in
          let one = at.1 in
          (at.0, omega (arith, both, one, bit_at-lt a at.0, bit_at-lt b at.0), omega (arith, both, one, bit_at-lt a at.0, bit_at-lt b at.0))
    ]

    back : (y : ℕ) × (bit_at a y ≡ 1) × (bit_at b y ≡ 1) → IsTrue (not (nat_eq (bit_and a b) 0))
    back at =
        let here = bit_at_and a b at.0 in
        let one = at.1 in
        let other = at.2 in
        let some : bit_and a b ≡ 0 → ⊥ = λ none.
        let dead = ap (λ n. bit_at n at.0) none ∙ bit_at-zero at.0 in
        omega (arith, here, dead, one, other) in
        rw (ne_eqb (bit_and a b) 0 some) refl

-- ---- ones

-- how many of the first bits are ones
abbrev pub ones_below : ℕ → ℕ → ℕ
ones_below n zero = 0
ones_below n (suc k) = ones_below n k + bit_at n k

-- a bit is the number of its ones
ones_of_bit : (b : ℕ) → b < 2 → count_ones b ≡ b
unfolding ones ones_in
ones_of_bit zero low = refl
ones_of_bit (suc zero) low = refl
ones_of_bit (suc (suc b)) low = absurd (omega (arith, low))

low_ones : (n k : ℕ) → count_ones (n % 2 ^ k) ≡ ones_below n k
low_ones n zero = ap count_ones (let e : n % 2 ^ 0 ≡ 0 = omega arith in e) ∙ ones_of_bit 0 (omega arith)
low_ones n (suc k) =
    let one : 1 + k ≡ suc k = omega arith in
    let two : 2 ^ 1 ≡ 2 = refl in
    let parts : n % 2 ^ suc k ≡ bit_at n k * 2 ^ k + n % 2 ^ k = ap (λ i. n % 2 ^ i) (sym one) ∙ mod-pow-add n 1 k in
    ap count_ones parts ∙ (ones_cat k (bit_at n k) (n % 2 ^ k) (mod-lt n (pow_pos k)) ∙ (ap₂ ◌+◌ (ones_of_bit (bit_at n k) (bit_at-lt n k)) (low_ones n k) ∙ omega arith))

-- all of them
pub all_ones : (n k : ℕ) → n < 2 ^ k → count_ones n ≡ ones_below n k
all_ones n k low = ap count_ones (sym (mod-eq_of_lt low)) ∙ low_ones n k

-- past the last one
pub ones_past : (n k m : ℕ) → ((x : ℕ) → k ≤ x → x < k + m → bit_at n x ≡ 0) → ones_below n (k + m) ≡ ones_below n k
ones_past n k zero none = ap (ones_below n) (let e : k + 0 ≡ k = omega arith in e)
ones_past n k (suc m) none =
    let next : k + suc m ≡ suc (k + m) = omega arith in
    let dead = none (k + m) (omega arith) (omega arith) in
    let before = ones_past n k m (λ x from below. none x from (omega (arith, below))) in
    ap (ones_below n) next ∙ omega (arith, dead, before)

-- ---- bits the other way round

-- where the bits of two numbers are each other's the other way round, as many are ones
pub ones_reversed : (a b width : ℕ) → width ≤ 64 → a < 2 ^ 64 → b < 2 ^ 64 → ((x : ℕ) → x < width → bit_at a x ≡ bit_at b (width - 1 - x)) → ((x : ℕ) → width ≤ x → bit_at a x ≡ 0) → ((x : ℕ) → width ≤ x → bit_at b x ≡ 0) → count_ones a ≡ count_ones b
ones_reversed a b width narrow fits_a fits_b same none_a none_b = within a fits_a none_a ∙ (halves ∙ sym (within b fits_b none_b))
  where
    within : (n : ℕ) → n < 2 ^ 64 → ((x : ℕ) → width ≤ x → bit_at n x ≡ 0) → count_ones n ≡ ones_below n width
    within n fits none =
        let all : 64 ≡ width + (64 - width) = omega (arith, narrow) in
        all_ones n 64 fits ∙ (ap (ones_below n) all ∙ ones_past n width (64 - width) (λ x from below. none x from))

    part : (k : ℕ) → k ≤ width → ones_below a k + ones_below b (width - k) ≡ ones_below b width
    part zero few = let all = ap (ones_below b) (let e : width - 0 ≡ width = omega arith in e) in omega (arith, all)
    part (suc k) few =
        let here = same k (omega (arith, few)) in
        let place : width - 1 - k ≡ width - suc k = omega arith in
        let next : width - k ≡ suc (width - suc k) = omega (arith, few) in
        let before = part k (omega (arith, few)) in
        let bit = here ∙ ap (bit_at b) place in
        let step = ap (ones_below b) next in
        omega (arith, before, bit, step)

    halves : ones_below a width ≡ ones_below b width
    halves =
        let all = part width (omega arith) in
        let none : width - width ≡ 0 = omega arith in
        let rest = ap (ones_below b) none in
        omega (arith, all, rest)
