-- The next state of a cell, put together from the bits of numbers of live cells.
use Rattle.std.proofs.Common.{◌≡◌, ◌≢◌, ℕ, zero, suc, ◌+◌, ◌-◌, ◌*◌, ◌<◌, ◌≤◌, min, max, Bool, true, false, refl, sym, ap, ap₂, ◌∙◌, arith, ◌==◌, if◌then◌else◌}
use Rattle.std.specs.Prelude.{bit_and, bit_or}
use Rattle.std.specs.Int.{bit_at}
use Rattle.std.proofs.lemmas.Nat.Bits.{bit_at-zero, bit_at-lt, bit_at_and, bit_at_or}
use Rattle.ca_bricks.specs.Prelude.{lives_next, next_by_count}

bit_told : (n : ℕ) → n < 2 → (if n == 1 then 1 else 0) ≡ n
bit_told zero h = refl
bit_told (suc zero) h = refl
bit_told (suc (suc n)) h = absurd (omega arith)

told_by : (dead : Bool) (birth survive count : ℕ)
    → (if (if dead then (bit_at birth count == 1) else (bit_at survive count == 1)) then 1 else 0) ≡ bit_at (if dead then birth else survive) count
told_by true birth survive count = bit_told (bit_at birth count) (bit_at-lt birth count)
told_by false birth survive count = bit_told (bit_at survive count) (bit_at-lt survive count)

-- what two bits of the masks tell is decided
pub told_decided : (birth survive centre count : ℕ) (born stays : Bool) → born ≡ (bit_at birth count == 1) → stays ≡ (bit_at survive count == 1) → lives_next born stays centre ≡ next_by_count birth survive centre count
told_decided birth survive centre count born stays b s = ap₂ (λ b s. lives_next b s centre) b s ∙ told_by (centre == 0) birth survive count

pub next_by_count-lt : (birth survive centre count : ℕ) → next_by_count birth survive centre count < 2
next_by_count-lt birth survive centre count = bit_at-lt (if centre == 0 then birth else survive) count

-- two numbers that differ by one
pub pair_told : (d : ℕ → ℕ) (least next which one without both t u first second : ℕ) → which < 2 → one < 2 → without ≡ which - one → both ≡ min which one → t ≡ d least → u ≡ d (least + 1)
    → first ≡ max next (min without t) → second ≡ max first (min both u) → second ≡ max next (min which (d (least + one)))
pair_told d least next which zero without both t u first second h k w b ht hu e f = let q : d (least + 0) ≡ d least = ap d (omega arith) in omega (arith, q)
pair_told d least next which (suc zero) without both t u first second h k w b ht hu e f = omega arith
pair_told d least next which (suc (suc one)) without both t u first second h k w b ht hu e f = absurd (omega arith)

-- all numbers up to 8: no more than one of the five parts has the cell
pub all_told : (d : ℕ → ℕ) → ((n : ℕ) → d n < 2) → (o t f e n : ℕ) → o < 2 → t < 2 → f < 2 → n ≡ o + 2 * t + 4 * f + 8 * e → n ≤ 8
    → (none one two_four more two zero_one four six eight a b c g r : ℕ) → none ≡ 0 → one ≡ 1 → two_four ≡ max t f → more ≡ max two_four e
    → two ≡ t - f → zero_one ≡ one - more → four ≡ f - t → six ≡ min f t → eight ≡ d 8
    → a ≡ max none (min two (d (2 + o))) → b ≡ max a (min zero_one (d (0 + o))) → c ≡ max b (min four (d (4 + o))) → g ≡ max c (min six (d (6 + o))) → r ≡ max g (min e eight) → r ≡ d n
all_told d low o t f (suc e) n ho ht hf en hn none one two_four more two zero_one four six eight a b c g r i j k l p q s u v ea eb ec eg er =
    let w : d n ≡ d 8 = ap d (omega arith) in
    let x : t ≡ 0 = omega arith in
    let y : f ≡ 0 = omega arith in
    let z : e ≡ 0 = omega arith in
    omega (arith, low n)
all_told d low o zero zero zero n ho ht hf en hn none one two_four more two zero_one four six eight a b c g r i j k l p q s u v ea eb ec eg er =
    let w : d n ≡ d (0 + o) = ap d (omega arith) in omega (arith, low n)
all_told d low o (suc t) zero zero n ho ht hf en hn none one two_four more two zero_one four six eight a b c g r i j k l p q s u v ea eb ec eg er =
    let w : d n ≡ d (2 + o) = ap d (omega arith) in omega (arith, low n)
all_told d low o zero (suc f) zero n ho ht hf en hn none one two_four more two zero_one four six eight a b c g r i j k l p q s u v ea eb ec eg er =
    let w : d n ≡ d (4 + o) = ap d (omega arith) in omega (arith, low n)
all_told d low o (suc t) (suc f) zero n ho ht hf en hn none one two_four more two zero_one four six eight a b c g r i j k l p q s u v ea eb ec eg er =
    let w : d n ≡ d (6 + o) = ap d (omega arith) in omega (arith, low n)

-- ---- masks with no number but 2 and 3

none_at : (birth survive centre n : ℕ) → bit_and (bit_or birth survive) 499 ≡ 0 → bit_at 499 n ≡ 1 → next_by_count birth survive centre n ≡ 0
none_at birth survive centre n e one =
    let k : min (max (bit_at birth n) (bit_at survive n)) (bit_at 499 n) ≡ 0
    = ap (λ m. min m (bit_at 499 n)) (sym (bit_at_or birth survive n)) ∙ sym (bit_at_and (bit_or birth survive) 499 n) ∙ ap (λ m. bit_at m n) e ∙ bit_at-zero n in
    either (centre == 0) k
  where
    either : (dead : Bool) → min (max (bit_at birth n) (bit_at survive n)) (bit_at 499 n) ≡ 0 → bit_at (if dead then birth else survive) n ≡ 0
    either true k = omega (arith, one)
    either false k = omega (arith, one)

none_told : (birth survive centre n : ℕ) → bit_and (bit_or birth survive) 499 ≡ 0 → n ≤ 8 → n ≢ 2 → n ≢ 3 → next_by_count birth survive centre n ≡ 0
none_told birth survive centre zero e h i j = none_at birth survive centre 0 e refl
none_told birth survive centre (suc zero) e h i j = none_at birth survive centre 1 e refl
none_told birth survive centre (suc (suc zero)) e h i j = absurd (i refl)
none_told birth survive centre (suc (suc (suc zero))) e h i j = absurd (j refl)
none_told birth survive centre (suc (suc (suc (suc zero)))) e h i j = none_at birth survive centre 4 e refl
none_told birth survive centre (suc (suc (suc (suc (suc zero))))) e h i j = none_at birth survive centre 5 e refl
none_told birth survive centre (suc (suc (suc (suc (suc (suc zero)))))) e h i j = none_at birth survive centre 6 e refl
none_told birth survive centre (suc (suc (suc (suc (suc (suc (suc zero))))))) e h i j = none_at birth survive centre 7 e refl
none_told birth survive centre (suc (suc (suc (suc (suc (suc (suc (suc zero)))))))) e h i j = none_at birth survive centre 8 e refl
none_told birth survive centre (suc (suc (suc (suc (suc (suc (suc (suc (suc n))))))))) e h i j = absurd (omega arith)

-- then 2 and 3 are all
pub few_told : (birth survive centre o t f e n : ℕ) → o < 2 → t < 2 → f < 2 → n ≡ o + 2 * t + 4 * f + 8 * e → n ≤ 8 → bit_and (bit_or birth survive) 499 ≡ 0
    → (none two a : ℕ) → none ≡ 0 → two ≡ t - f → a ≡ max none (min two (next_by_count birth survive centre (2 + o))) → a ≡ next_by_count birth survive centre n
few_told birth survive centre o (suc t) zero e n ho ht hf en hn few none two a i j ea =
    let q : next_by_count birth survive centre n ≡ next_by_count birth survive centre (2 + o) = ap (next_by_count birth survive centre) (omega arith) in
    omega (arith, next_by_count-lt birth survive centre n)
few_told birth survive centre o zero f e n ho ht hf en hn few none two a i j ea =
    let z : a ≡ 0 = omega arith in z ∙ sym (none_told birth survive centre n few hn (λ k. omega arith) (λ k. omega arith))
few_told birth survive centre o (suc t) (suc f) e n ho ht hf en hn few none two a i j ea =
    let z : a ≡ 0 = omega arith in z ∙ sym (none_told birth survive centre n few hn (λ k. omega arith) (λ k. omega arith))
