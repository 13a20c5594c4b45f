-- The height of columns, from the greatest of them.
use Rattle.std.proofs.Common.{◌≡◌, ℕ, zero, suc, ◌-◌, ◌*◌, ◌/◌, ◌%◌, ◌^◌, ◌<◌, ◌≤◌, sym, subst, inl, inr, arith}
use Rattle.std.specs.Int.{bit_at}
use Rattle.std.proofs.lemmas.Bool.{cases_lt}
use Rattle.std.proofs.lemmas.Nat.{leading_length, pow_below, pow_pos, le-div, div_below}
use lib.Count.{count_leading_zeros}

-- a smaller power
pub pow_most : (i j : ℕ) → i ≤ j → 2 ^ i ≤ 2 ^ j
pow_most i j least = elim (cases_lt i j) [
  | inl less ↦ omega (arith, pow_below i j less)
  | inr most ↦ let same : i ≡ j = omega (arith, least, most) in rw same (omega arith)
]

-- a number's highest digit is 1
top_bit : (n p : ℕ) → 0 < p → p ≤ n → n < 2 * p → n / p % 2 ≡ 1
top_bit n p some least most =
    let one : 1 ≤ n / p = le-div 1 n p some (omega (arith, least)) in
    let two : n / p < 2 = div_below n p 2 some most in
    omega (arith, one, two)

-- the height of a number
pub record IsHeight (n h : ℕ) : Type 0 where
  pub all : n < 2 ^ h
  pub last : 0 < h → bit_at n (h - 1) ≡ 1
  pub most : n < 2 ^ 40 → h ≤ 40

pub IsHeight-leading : (n : ℕ) → n < 2 ^ 64 → IsHeight n (64 - count_leading_zeros 64 n)
IsHeight-leading n small =
    let top = leading_length 64 n small in
    let h = top.0 in
    let is : 64 - count_leading_zeros 64 n ≡ h = omega (arith, top.1) in
    subst (IsHeight n) (sym is) (record {
      all = top.2;
      last = λ some.
          let half : 2 ^ h ≡ 2 * 2 ^ (h - 1) = doubled h some in
          top_bit n (2 ^ (h - 1)) (pow_pos (h - 1)) (omega (arith, half, top.3)) (omega (arith, half, top.2));
      most = λ low. elim (cases_lt 40 h) [
        | inl high ↦
            let large : 2 ^ 41 ≤ 2 ^ h = pow_most 41 h high in
            absurd (omega (arith, large, top.3, low))
        | inr fits ↦ fits
      ];
    })
  where
    doubled : (h : ℕ) → 0 < h → 2 ^ h ≡ 2 * 2 ^ (h - 1)
    doubled zero some = elim some [ ]
    doubled (suc h) some = let e : suc h - 1 ≡ h = omega arith in rw e (omega arith)
