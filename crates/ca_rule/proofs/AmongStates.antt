-- The states below a count that pass a test, as bits.
use Rattle.std.proofs.Common.{◌≡◌, ◌≢◌, ◌==◌, ◌<◌, ◌≤◌, ◌+◌, ◌*◌, ◌^◌, ◌/◌, ◌%◌, ℕ, zero, suc, Bool, true, false, ◌&&◌, ◌||◌, List, [], ◌∷◌, length, nat_lt, slice_set, eq-eqb, refl, sym, ap, ◌∙◌, arith, inl, inr}
use Rattle.std.specs.Prelude.{filter, max, bit_or, slice_index}
use Rattle.std.specs.Int.{bit_at}
use Rattle.std.specs.List.{range_with_len}
use Rattle.std.proofs.Math.Bool.{or-true, or-false}
use Rattle.std.proofs.lemmas.Bool.{cases_Bool, false≢true}
use Rattle.std.proofs.lemmas.Bool.Decides.{nat_tests}
use Rattle.std.proofs.lemmas.List.{get_or-set_other}
use Rattle.std.proofs.lemmas.Grind.{get_or-set_at}
use Rattle.std.proofs.Math.Pow.{pow-lt}
use Rattle.std.proofs.Math.Nat.{mod-eq_of_lt}
use Rattle.ca_rule.specs.inner.TableStates.{is_in}
use Rattle.std.proofs.lemmas.Nat.Bits.{bit_at_or, bit_at-lt, bit_at-pow_same, bit_at-pow_other}

-- no state from the count onwards
none-above : (q : ℕ → Bool) (a n : ℕ) → ((t : ℕ) → a ≤ t → t < a + n → q t ≡ false) → filter q (range_with_len a n) ≡ []
none-above q a zero h = refl
none-above q a (suc n) h = rw (h a (omega arith) (omega arith)) (none-above q (a + 1) n (λ t low high. h t (omega arith) (omega arith)))

pub zero-plus : (n : ℕ) → 0 + n ≡ n
zero-plus n = omega arith

suc-plus : (m n : ℕ) → suc m + n ≡ suc (m + n)
suc-plus m n = omega arith

-- and below it those that pass
pub all-below : (p q : ℕ → Bool) (a m n : ℕ) → ((t : ℕ) → a ≤ t → t < a + (m + n) → q t ≡ (nat_lt t (a + m) && p t)) → filter q (range_with_len a (m + n)) ≡ filter p (range_with_len a m)
all-below p q a zero n h = ap (λ k. filter q (range_with_len a k)) (zero-plus n) ∙ none-above q a n (λ t low high.
    let above : nat_lt t (a + 0) ≡ false = grind (arith, nat_tests) in
    h t low (omega arith) ∙ ap (λ b. b && p t) above)
all-below p q a (suc m) n h =
    let below : nat_lt a (a + suc m) ≡ true = grind (arith, nat_tests) in
    let here : q a ≡ p a = h a (omega arith) (omega arith) ∙ ap (λ b. b && p a) below in
    let more : filter q (range_with_len (a + 1) (m + n)) ≡ filter p (range_with_len (a + 1) m)
    = all-below p q (a + 1) m n (λ t low high. h t (omega arith) (omega arith) ∙ ap (λ k. nat_lt t k && p t) (omega arith)) in
    let both_lists : filter q (a ∷ range_with_len (a + 1) (m + n)) ≡ filter p (a ∷ range_with_len (a + 1) m)
    = elim (cases_Bool (p a)) [
      | inl e ↦ rw (here ∙ e) (rw e (ap (λ l. a ∷ l) more))
      | inr e ↦ rw (here ∙ e) (rw e more)
    ] in
    ap (λ k. filter q (range_with_len a k)) (suc-plus m n) ∙ both_lists

one-times : (n : ℕ) → 1 * n ≡ n
one-times n = omega arith

max-one : (n : ℕ) → n < 2 → max n 1 ≡ 1
max-one n h = omega arith

max-zero : (n : ℕ) → max n 0 ≡ n
max-zero n = omega arith

-- the bit of a state in a word
module _ (words : List ℕ) (s t : ℕ) (long : length words ≡ 4) (small : s < 256) (other : t < 256) where
  one_bit : 1 * 2 ^ (s % 64) % 2 ^ 64 ≡ 2 ^ (s % 64)
  one_bit =
      let low : s % 64 < 64 = omega arith in
      let fits : 2 ^ (s % 64) < 2 ^ 64 = pow-lt low in
      ap (λ n. n % 2 ^ 64) (one-times (2 ^ (s % 64))) ∙ mod-eq_of_lt fits

  -- the same word
  here : t / 64 ≡ s / 64 → is_in (slice_set words (s / 64) (bit_or (slice_index words (s / 64)) (1 * 2 ^ (s % 64) % 2 ^ 64))) t ≡ (is_in words t || (t == s))
  here e =
      let within : s / 64 < length words = rw long (omega arith) in
      let word : slice_index (slice_set words (s / 64) (bit_or (slice_index words (s / 64)) (1 * 2 ^ (s % 64) % 2 ^ 64))) (t / 64) ≡ bit_or (slice_index words (t / 64)) (2 ^ (s % 64))
      = get_or-set_at words (s / 64) (t / 64) _ 0 e within ∙ ap (λ b. bit_or (slice_index words (s / 64)) b) one_bit ∙ ap (λ i. bit_or (slice_index words i) (2 ^ (s % 64))) (sym e) in
      let bits : bit_at (slice_index (slice_set words (s / 64) (bit_or (slice_index words (s / 64)) (1 * 2 ^ (s % 64) % 2 ^ 64))) (t / 64)) (t % 64) ≡ max (bit_at (slice_index words (t / 64)) (t % 64)) (bit_at (2 ^ (s % 64)) (t % 64))
      = ap (λ w. bit_at w (t % 64)) word ∙ bit_at_or (slice_index words (t / 64)) (2 ^ (s % 64)) (t % 64) in
      let small_bit = bit_at-lt (slice_index words (t / 64)) (t % 64) in
      elim (cases_Bool (t == s)) [
        | inl v ↦ let same : t ≡ s = grind (arith, nat_tests) in
            let one : bit_at (2 ^ (s % 64)) (t % 64) ≡ 1 = ap (λ i. bit_at (2 ^ (s % 64)) (i % 64)) same ∙ bit_at-pow_same (s % 64) in
            ap (λ n. n == 1) (bits ∙ ap (max (bit_at (slice_index words (t / 64)) (t % 64))) one ∙ max-one (bit_at (slice_index words (t / 64)) (t % 64)) small_bit)
            ∙ sym (ap (λ b. is_in words t || b) v ∙ or-true (is_in words t))
        | inr v ↦ let apart : t ≢ s = λ k. false≢true (sym v ∙ ap (λ i. i == s) k ∙ eq-eqb s s refl) in
            let unlike : t % 64 ≢ s % 64 = λ k. apart (omega arith) in
            let none : bit_at (2 ^ (s % 64)) (t % 64) ≡ 0 = bit_at-pow_other (s % 64) (t % 64) unlike in
            ap (λ n. n == 1) (bits ∙ ap (max (bit_at (slice_index words (t / 64)) (t % 64))) none ∙ max-zero (bit_at (slice_index words (t / 64)) (t % 64)))
            ∙ sym (ap (λ b. is_in words t || b) v ∙ or-false (is_in words t))
      ]

  -- another word
  there : t / 64 ≢ s / 64 → is_in (slice_set words (s / 64) (bit_or (slice_index words (s / 64)) (1 * 2 ^ (s % 64) % 2 ^ 64))) t ≡ (is_in words t || (t == s))
  there apart =
      let word : slice_index (slice_set words (s / 64) (bit_or (slice_index words (s / 64)) (1 * 2 ^ (s % 64) % 2 ^ 64))) (t / 64) ≡ slice_index words (t / 64) = get_or-set_other words (s / 64) (t / 64) _ 0 apart in
      elim (cases_Bool (t == s)) [
        | inl v ↦ let same : t ≡ s = grind (arith, nat_tests) in absurd (apart (ap (λ i. i / 64) same))
        | inr v ↦ ap (λ w. bit_at w (t % 64) == 1) word ∙ sym (ap (λ b. is_in words t || b) v ∙ or-false (is_in words t))
      ]

  pub put-bit : is_in (slice_set words (s / 64) (bit_or (slice_index words (s / 64)) (1 * 2 ^ (s % 64) % 2 ^ 64))) t ≡ (is_in words t || (t == s))
  put-bit = elim (cases_Bool (t / 64 == s / 64)) [
    | inl e ↦ let same : t / 64 ≡ s / 64 = grind (arith, nat_tests) in here same
    | inr e ↦ there (λ k. false≢true (sym e ∙ ap (λ i. i == s / 64) k ∙ eq-eqb (s / 64) (s / 64) refl))
  ]
