-- Parts of squares: where they lie.
use Rattle.std.proofs.Common.{◌≡◌, ℕ, suc, ◌+◌, ◌-◌, ◌*◌, ◌%◌, ◌≤◌, ◌<◌, ◌^◌, nat_lt, if◌then◌else◌, true, false, inl, inr, sym, ap, ◌∙◌, arith}
use Rattle.std.specs.Prelude.{ℤ, pos, ◌+ℤ◌}
use Rattle.std.proofs.lemmas.Int.{ints}
use Rattle.std.proofs.Math.Nat.{mul_comm, mul-add, two-pow-succ}
use Rattle.std.proofs.Math.Pow.{pow_mono}
use Rattle.std.proofs.lemmas.Nat.{mod-mul-add, pow-add}
use Rattle.std.proofs.lemmas.Bool.Decides.{nat_tests}
use Rattle.ca_plane.proofs.Numbers.{below_or_not}
use Rattle.ca_bricks.specs.Prelude.{side}

-- a smaller number is its own remainder
own_rest : (n m : ℕ) → n < m → n % m ≡ n
own_rest n m l =
    let none : n ≡ 0 * m + n = omega arith in
    ap (λ r. r % m) none ∙ mod-mul-add 0 m n l

-- half a side fits in a machine word
pub half_is : (k : ℕ) → k ≤ 62 → 1 * 2 ^ k % 2 ^ 64 ≡ 2 ^ k
half_is k low =
    let few : 2 ^ k ≤ 2 ^ 62 = pow_mono low in
    let one : 1 * 2 ^ k ≡ 2 ^ k = omega arith in
    ap (λ n. n % 2 ^ 64) one ∙ own_rest (2 ^ k) (2 ^ 64) (omega (arith, few))

-- the first place is where the square begins
pub first_place : (l i : ℕ) → i ≡ 0 → (a : ℤ) → a ≡ a +ℤ pos (2 ^ l * i)
first_place l i e a = rw e (omega (arith, ints))

-- a place among parts is as far in the half that it lies in
pub part_from : (k l n i h : ℕ) → n ≡ k + l → h ≡ 2 ^ k → suc i ≤ 2 ^ suc k → (a : ℤ)
    → (if nat_lt i h then a else (a +ℤ side n)) +ℤ pos (2 ^ l * (i % h)) ≡ a +ℤ pos (2 ^ l * i)
part_from k l n i h level e low a = elim (below_or_not i h) [
  | inl near ↦
      let here : nat_lt i h ≡ true = grind (arith, nat_tests, near) in
      rw here (ap (λ n. a +ℤ pos (2 ^ l * n)) (own_rest i h near))
  | inr far ↦
      let there : nat_lt i h ≡ false = grind (arith, nat_tests, far) in
      let up = two-pow-succ k in
      let wide : 2 ^ n ≡ 2 ^ l * h = ap (λ n. 2 ^ n) level ∙ pow-add 2 k l ∙ mul_comm (2 ^ k) (2 ^ l) ∙ ap (λ m. 2 ^ l * m) (sym e) in
      let sum : i ≡ 1 * h + (i - h) = omega (arith, far) in
      let rest : i % h ≡ i - h = ap (λ n. n % h) sum ∙ mod-mul-add 1 h (i - h) (omega (arith, e, up, low, far)) in
      let both : h + (i - h) ≡ i = omega (arith, far) in
      let all : 2 ^ l * i ≡ 2 ^ l * h + 2 ^ l * (i - h) = ap (λ m. 2 ^ l * m) (sym both) ∙ mul-add (2 ^ l) h (i - h) in
      rw (there, rest) (omega (arith, ints, wide, all))
]
