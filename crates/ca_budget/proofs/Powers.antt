-- Powers in the count of work: of 14 for each level, and of 2 for the digits of a number of generations.
use Rattle.std.proofs.Common.{◌≡◌, ℕ, suc, ◌+◌, ◌-◌, ◌*◌, ◌/◌, ◌^◌, ◌<◌, ◌≤◌, inl, inr, subst, arith}
use Rattle.std.proofs.Math.Nat.{pow-succ', one-le-pow, pow-le-pow_right, div-eq_of_lt, lt-mul-div-succ}
use Rattle.std.proofs.Math.Pow.{pow_mono}
use Rattle.ca_plane.proofs.Numbers.{below_or_not}

pub power_suc : (g : ℕ) → 14 ^ suc g ≡ 14 * 14 ^ g
power_suc g = pow-succ' 14 g

pub power_some : (g : ℕ) → 1 ≤ 14 ^ g
power_some g = one-le-pow g 14 (omega arith)

pub power_more : (g h : ℕ) → g ≤ h → 14 ^ g ≤ 14 ^ h
power_more g h n = pow-le-pow_right (omega arith) n

-- a number that isn't less than a power of two has as many digits
pub long_run : (n k d : ℕ) → k ≤ 14 → 1 ≤ n / 2 ^ (14 - k) → n < 2 ^ d → 15 ≤ k + d
long_run n k d low some time = elim (below_or_not d (15 - k)) [
  | inl few ↦
      let fewer : d ≤ 14 - k = omega (arith, few, low) in
      let most : 2 ^ d ≤ 2 ^ (14 - k) = pow_mono fewer in
      let small : n < 2 ^ (14 - k) = omega (arith, most, time) in
      let none = div-eq_of_lt small in
      absurd (omega (arith, some, none))
  | inr e ↦ omega (arith, e, low)
]

-- and one that is less has as few
pub short_run : (n k : ℕ) → k ≤ 14 → n / 2 ^ (14 - k) ≡ 0 → (d : ℕ) × ((n < 2 ^ d) × (k + d ≤ 14))
short_run n k low none =
    let some : 1 ≤ 2 ^ (14 - k) = one-le-pow (14 - k) 2 (omega arith) in
    let below : n < 2 ^ (14 - k) * (0 + 1) = subst (λ q. n < 2 ^ (14 - k) * (q + 1)) none (lt-mul-div-succ n some) in
    (14 - k, (omega (arith, below), omega (arith, low)))

-- what can be counted is less than 14 to the power of 17
pub countable_cost : (k d used : ℕ) → 15 ≤ k + d → used < 2 ^ 64 → used ≤ 14 ^ (k + d + 2)
countable_cost k d used long few =
    let power = power_more 17 (k + d + 2) (omega (arith, long)) in
    omega (arith, power, few)
