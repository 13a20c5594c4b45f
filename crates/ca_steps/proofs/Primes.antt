-- Primes: one divides each number above 1, and one that divides a product divides a factor of it.
use Rattle.std.proofs.Common.{◌≡◌, ℕ, zero, suc, ap, ◌+◌, ◌*◌, ◌-◌, ◌/◌, ◌%◌, ◌≤◌, ◌<◌, sym, subst, ◌∙◌, inl, inr, arith}
use Rattle.std.specs.Int.{◌∣◌}
use Rattle.std.proofs.Math.Nat.{dvd_refl, dvd_trans, le_of_dvd, pos_of_dvd_of_pos, dvd_of_mod-eq-zero, dvd_iff_mod-eq-zero, emod_pos_of_not-dvd, dvd-add_iff_right, dvd-mul_left, dvd-mul_right, dvd-mul_left_of_dvd, dvd-mul_right_of_dvd, div-add-mod, div-mul_cancel, mul-div_cancel, mod-lt, mul_comm, mul_assoc, mul-le-mul_right, add-mul, one-mul}
use Rattle.std.proofs.lemmas.Nat.{le-div}
use Rattle.std.proofs.lemmas.Bool.{cases_eq, cases_lt}
use Rattle.ca_steps.specs.Prelude.{IsPrime}

-- a divisor below which no number above 1 is one is a prime
pub prime_at : (n d : ℕ) → 1 < d → d ∣ n → ((e : ℕ) → 1 < e → e < d → e ∣ n → ⊥) → IsPrime d
prime_at n d above divides none = record {
  above = above;
  alone = λ e part.
      let most : e ≤ d = le_of_dvd (omega (arith, above)) part in
      let some : 0 < e = pos_of_dvd_of_pos part (omega (arith, above)) in
      elim (cases_eq e 1) [
        | inl one ↦ inl one
        | inr other ↦
            elim (cases_lt e d) [
              | inl less ↦ absurd (none e (omega (arith, some, other)) less (dvd_trans e part divides))
              | inr from ↦ inr (omega (arith, most, from))
            ]
      ];
}

-- a prime that divides a number, looked for from d onwards
prime_from : (steps d n : ℕ) → n ≡ steps + d → 1 < d → ((e : ℕ) → 1 < e → e < d → e ∣ n → ⊥) → (q : ℕ) × IsPrime q × (q ∣ n)
prime_from zero d n sum above none =
    let same : d ≡ n = omega (arith, sum) in
    let divides : d ∣ n = subst (λ m. d ∣ m) same (dvd_refl d) in
    (d, prime_at n d above divides none, divides)
prime_from (suc steps) d n sum above none =
    elim (cases_eq (n % d) 0) [
      | inl whole ↦
          let divides : d ∣ n = dvd_of_mod-eq-zero d whole in
          (d, prime_at n d above divides none, divides)
      | inr rest ↦
          prime_from steps (d + 1) n (omega (arith, sum)) (omega (arith, above)) (λ e more less part.
          elim (cases_eq e d) [
            | inl here ↦ rest ((dvd_iff_mod-eq-zero d).0 (subst (λ j. j ∣ n) here part))
            | inr other ↦ none e more (omega (arith, less, other)) part
          ])
    ]

-- each number above 1 has one
pub some_prime : (n : ℕ) → 1 < n → (q : ℕ) × IsPrime q × (q ∣ n)
some_prime n above = prime_from (n - 2) 2 n (omega (arith, above)) (omega arith) (λ e more less part. absurd (omega (arith, more, less)))

-- a number that is at least 1, divided by a prime of it, is at least 1 too
pub quotient_some : (n q : ℕ) → 1 ≤ n → IsPrime q → q ∣ n → 1 ≤ n / q
quotient_some n q some prime part =
    let above = prime.above in
    let most : q ≤ n = le_of_dvd some part in
    le-div 1 n q (omega (arith, above)) (omega (arith, most))

-- factors of a product change places
pub swapped : (a b c : ℕ) → a * b * c ≡ a * c * b
swapped a b c = mul_assoc a b c ∙ ap (λ j. a * j) (mul_comm b c) ∙ sym (mul_assoc a c b)

-- a number with a smaller divisor, divided by a prime, is a multiple of that divisor
pub times_by_prime : (n m : ℕ) → 1 ≤ m → m ∣ n → m < n → (q : ℕ) × IsPrime q × (q ∣ n) × (k : ℕ) × (1 ≤ k) × (k * m ≡ n / q)
times_by_prime n m some divides less =
    let d = n / m in
    let whole : d * m ≡ n = div-mul_cancel m divides in
    let more : 1 < d =
    elim (cases_lt 1 d) [
      | inl above ↦ above
      | inr few ↦ let most : d * m ≤ 1 * m = mul-le-mul_right m few in absurd (omega (arith, whole, less, most))
    ] in
    by_prime n m d whole more (some_prime d more)
  where
    by_prime : (n m d : ℕ) → d * m ≡ n → 1 < d → (q : ℕ) × IsPrime q × (q ∣ d) → (q : ℕ) × IsPrime q × (q ∣ n) × (k : ℕ) × (1 ≤ k) × (k * m ≡ n / q)
    by_prime n m d whole more found =
        let q = found.0 in
        let above = found.1.above in
        let k = d / q in
        let product : (k * m) * q ≡ n = swapped k m q ∙ ap (λ j. j * m) (div-mul_cancel q found.2) ∙ whole in
        let quotient : k * m ≡ n / q = sym (mul-div_cancel (k * m) (omega (arith, above))) ∙ ap (λ j. j / q) product in
        (q, found.1, subst (λ j. q ∣ j) product (dvd-mul_left q (k * m)), k, quotient_some d q (omega (arith, more)) found.1 found.2, quotient)

-- ---- products

-- what divides k times a sum, and k times its first part, divides k times the other
part_divides : (q a b r k : ℕ) → a ≡ b + r → q ∣ a * k → q ∣ b * k → q ∣ r * k
part_divides q a b r k sum all first = (dvd-add_iff_right q first).1 (subst (λ j. q ∣ j) (ap (λ j. j * k) sum ∙ add-mul b r k) all)

-- n is n / m times m, and a rest
parts : (n m : ℕ) → n ≡ (n / m) * m + n % m
parts n m = sym (div-add-mod n m) ∙ ap (λ a. a + n % m) (mul_comm m (n / m))

-- a prime that divides r times k, for a smaller r that is at least 1, divides k
divides_beside : (limit q r k : ℕ) → IsPrime q → r ≤ limit → 0 < r → r < q → q ∣ r * k → q ∣ k
divides_beside zero q r k prime within some less divides = absurd (omega (arith, within, some))
divides_beside (suc limit) q r k prime within some less divides =
    elim (cases_eq r 1) [
      | inl one ↦ subst (λ j. q ∣ j) (ap (λ j. j * k) one ∙ one-mul k) divides
      | inr other ↦
          let times : q ∣ (q / r) * r * k = subst (λ j. q ∣ j) (sym (mul_assoc (q / r) r k)) (dvd-mul_left_of_dvd q divides (q / r)) in
          let rest : q ∣ (q % r) * k = part_divides q q ((q / r) * r) (q % r) k (parts q r) (dvd-mul_right q k) times in
          let below : q % r < r = mod-lt q some in
          let left : 0 < q % r = emod_pos_of_not-dvd r (λ part. elim (prime.alone r part) [ inl one ↦ other one | inr all ↦ absurd (omega (arith, all, less)) ]) in
          divides_beside limit q (q % r) k prime (omega (arith, below, within)) left (omega (arith, below, less)) rest
    ]

-- one that divides a product divides a factor of it
pub divides_other : (q m k : ℕ) → IsPrime q → q ∣ m * k → (q ∣ m → ⊥) → q ∣ k
divides_other q m k prime divides not =
    let above = prime.above in
    let below : m % q < q = mod-lt m (omega (arith, above)) in
    let rest : q ∣ (m % q) * k = part_divides q m ((m / q) * q) (m % q) k (parts m q) divides (dvd-mul_right_of_dvd q (dvd-mul_left q (m / q)) k) in
    divides_beside (m % q) q (m % q) k prime (omega arith) (emod_pos_of_not-dvd q not) below rest

-- a divisor that a prime doesn't divide is one of the number without that prime
pub divides_without : (q n m : ℕ) → IsPrime q → q ∣ n → m ∣ n → (q ∣ m → ⊥) → m ∣ n / q
divides_without q n m prime part divides not =
    let above = prime.above in
    let k = n / m in
    let whole : m * k ≡ n = mul_comm m k ∙ div-mul_cancel m divides in
    let beside : q ∣ k = divides_other q m k prime (subst (λ j. q ∣ j) (sym whole) part) not in
    let product : (m * (k / q)) * q ≡ n = mul_assoc m (k / q) q ∙ ap (λ j. m * j) (div-mul_cancel q beside) ∙ whole in
    let exact : m * (k / q) ≡ n / q = sym (mul-div_cancel (m * (k / q)) (omega (arith, above))) ∙ ap (λ j. j / q) product in
    subst (λ j. m ∣ j) exact (dvd-mul_right m (k / q))
