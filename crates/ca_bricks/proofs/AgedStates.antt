-- What becomes of a state, as bits.
use Rattle.std.proofs.Common.{◌≡◌, ℕ, zero, suc, ◌-◌, ◌<◌, ◌≤◌, min, max, sym, ap, ◌∙◌, arith}
use Rattle.std.specs.Int.{bit_at}
use Rattle.std.proofs.lemmas.Bool.Decides.{nat_tests}
use Rattle.std.proofs.lemmas.Nat.Bits.{bit_at-zero, bit_at-lt}
use Rattle.ca_plane.specs.Prelude.{liveness, aged}
use Rattle.ca_bricks.specs.Prelude.{remaining, dying_digit, aged_digit}

-- ---- numbers one generation later

dead_counts : (states lives : ℕ) → lives < 2 → remaining states (aged states 0 lives) ≡ 0
dead_counts states lives few = grind (arith, nat_tests)

stays_counts : (states : ℕ) → remaining states (aged states 1 1) ≡ 0
stays_counts states = grind (arith, nat_tests)

begins_counts : (states : ℕ) → 2 ≤ states → remaining states (aged states 1 0) ≡ states - 2
begins_counts states least = grind (arith, nat_tests)

dying_counts : (states centre lives : ℕ) → 2 ≤ centre → centre < states → remaining states (aged states centre lives) ≡ remaining states centre - 1
dying_counts states centre lives dying low = grind (arith, nat_tests)

not_live : (centre : ℕ) → 2 ≤ centre → liveness centre ≡ 0
not_live centre dying = grind (arith, nat_tests)

some_left : (states centre : ℕ) → 2 ≤ centre → centre < states → 1 ≤ remaining states centre
some_left states centre dying low = grind (arith, nat_tests)

-- ---- bits one generation later

-- a cell is live next where the counting says so and it isn't dying
pub lives_aged : (states centre lives : ℕ) → centre < states → lives < 2 → lives - remaining states centre ≡ liveness (aged states centre lives)
lives_aged states zero lives low few = grind (arith, nat_tests)
lives_aged states (suc zero) lives low few = grind (arith, nat_tests)
lives_aged states (suc (suc c)) lives low few =
    let some = some_left states (suc (suc c)) (omega arith) low in
    let older : liveness (aged states (suc (suc c)) lives) ≡ 0 = grind (arith, nat_tests) in
    omega (arith, some, few, older)

-- a digit of the number of a cell
pub digit_aged : (states k centre lives : ℕ) → 2 ≤ states → centre < states → lives < 2
    → aged_digit states k (remaining states centre) (liveness centre - lives) ≡ dying_digit states k (aged states centre lives)
digit_aged states k zero lives least low few =
    let none : liveness 0 - lives ≡ 0 = omega arith in
    ap (λ b. max (bit_at 0 k) (min b (bit_at (states - 2) k))) none ∙ omega (arith, bit_at-zero k) ∙ sym (ap (λ n. bit_at n k) (dead_counts states lives few) ∙ bit_at-zero k)
digit_aged states k (suc zero) zero least low few =
    omega (arith, bit_at-zero k, bit_at-lt (states - 2) k) ∙ ap (λ n. bit_at n k) (sym (begins_counts states least))
digit_aged states k (suc zero) (suc zero) least low few =
    omega (arith, bit_at-zero k) ∙ sym (ap (λ n. bit_at n k) (stays_counts states) ∙ bit_at-zero k)
digit_aged states k (suc zero) (suc (suc l)) least low few = absurd (omega (arith, few))
digit_aged states k (suc (suc c)) lives least low few =
    let none : liveness (suc (suc c)) - lives ≡ 0 = omega (arith, not_live (suc (suc c)) (omega arith)) in
    ap (λ b. max (bit_at (remaining states (suc (suc c)) - 1) k) (min b (bit_at (states - 2) k))) none
    ∙ omega arith ∙ ap (λ n. bit_at n k) (sym (dying_counts states (suc (suc c)) lives (omega arith) low))

-- a state that has become of one is below the number of states
pub aged_low : (states centre lives : ℕ) → 2 ≤ states → centre < states → aged states centre lives < states
aged_low states centre lives least low = grind (arith, nat_tests)
