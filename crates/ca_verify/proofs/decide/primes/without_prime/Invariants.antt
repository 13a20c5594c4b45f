use Rattle.std.proofs.Common.{ℕ, ◌≤◌, ◌<◌}
use Rattle.std.specs.Int.{◌∣◌}
use Rattle.ca_verify.proofs.decide.primes.without_prime.Given as goal

-- what divides n, and the prime doesn't divide, divides the rest
abbrev pub invariant-factors : goal.invariant-factors
invariant-factors l = record {
  some : 1 ≤ l.rest;
  less : l.rest < l.n;
  part : l.rest ∣ l.n;
  keeps : (m : ℕ) → m ∣ l.n → (l.prime ∣ m → ⊥) → m ∣ l.rest;
}

abbrev pub decreases-factors : goal.decreases-factors
decreases-factors l = l.rest
