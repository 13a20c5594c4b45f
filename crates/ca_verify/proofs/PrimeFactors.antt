-- The factors of numbers that are tried in turn.
use Rattle.std.proofs.Common.{◌≡◌, ℕ, ◌+◌, ◌*◌, ◌/◌, ◌%◌, ◌≤◌, ◌<◌, subst, ◌∙◌, inl, inr, arith}
use Rattle.std.specs.Int.{◌∣◌}
use Rattle.std.proofs.Math.Nat.{mul-le-mul, mul-le-mul_left, mul_comm, div-mul_cancel, div-lt_self, dvd-mul_right, dvd_refl, dvd_trans, dvd_iff_mod-eq-zero}
use Rattle.std.proofs.lemmas.Nat.{le-div}
use Rattle.std.proofs.lemmas.Bool.{cases_eq, cases_lt}
use Rattle.ca_steps.specs.Prelude.{IsPrime}
use Rattle.ca_steps.proofs.Primes.{prime_at}

-- a quotient divides too
pub quotient_divides : (n q : ℕ) → q ∣ n → n / q ∣ n
quotient_divides n q part = subst (λ j. n / q ∣ j) (div-mul_cancel q part) (dvd-mul_right (n / q) q)

-- no number from 2 onwards and below `low` divides n
abbrev pub NoneBelow : (n low : ℕ) → Type 0
NoneBelow n low = (e : ℕ) → 1 < e → e < low → e ∣ n → ⊥

-- the next number is one that n allows
pub next_within : (n low : ℕ) → 2 ≤ low → low * low ≤ n → low + 1 ≤ n
next_within n low some square = let most : low * 2 ≤ low * low = mul-le-mul_left low some in omega (arith, some, most, square)

-- n divided by a number is no less than that, where the square isn't larger
pub quotient_within : (n low : ℕ) → 2 ≤ low → low * low ≤ n → low ≤ n / low
quotient_within n low some square = le-div low n low (omega (arith, some)) square

-- and none below that number divides it
pub none_in_quotient : (n low : ℕ) → NoneBelow n low → low ∣ n → NoneBelow (n / low) low
none_in_quotient n low none divides e more less part = none e more less (dvd_trans e part (quotient_divides n low divides))

-- the number doesn't divide n
pub none_on : (n low : ℕ) → NoneBelow n low → (n % low ≡ 0 → ⊥) → NoneBelow n (low + 1)
none_on n low none rest e more less part =
    elim (cases_eq e low) [
      | inl here ↦ rest ((dvd_iff_mod-eq-zero low).0 (subst (λ j. j ∣ n) here part))
      | inr other ↦ none e more (omega (arith, less, other)) part
    ]

-- a divisor and its quotient
quotient : (n d : ℕ) → d ∣ n → d * (n / d) ≡ n
quotient n d divides = mul_comm d (n / d) ∙ div-mul_cancel d divides

-- a number that none divides whose square is no larger is a prime
pub prime_alone : (n low : ℕ) → 2 ≤ n → NoneBelow n low → n < low * low → IsPrime n
prime_alone n low some none square =
    prime_at n n (omega (arith, some)) (dvd_refl n) (λ e more less part.
    let k = n / e in
    let whole : e * k ≡ n = quotient n e part in
    elim (cases_lt e low) [
      | inl below ↦ none e more below part
      | inr from ↦
          elim (cases_lt k low) [
            | inr above ↦ let least : low * low ≤ e * k = mul-le-mul from above in absurd (omega (arith, square, least, whole))
            | inl below ↦
                elim (cases_lt 1 k) [
                  | inl many ↦ none k many below (subst (λ j. k ∣ j) (mul_comm k e ∙ whole) (dvd-mul_right k e))
                  | inr few ↦ let most : e * k ≤ e * 1 = mul-le-mul_left e few in absurd (omega (arith, whole, most, less))
                ]
          ]
    ])

-- a number divided by a prime is smaller
pub quotient_less : (n q : ℕ) → 1 ≤ n → IsPrime q → n / q < n
quotient_less n q some prime = div-lt_self some prime.above
