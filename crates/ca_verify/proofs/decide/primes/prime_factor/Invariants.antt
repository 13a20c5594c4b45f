use Rattle.std.proofs.Common.{◌≤◌, ◌+◌, ◌-◌}
use Rattle.std.specs.Int.{◌∣◌}
use Rattle.ca_verify.proofs.PrimeFactors.{NoneBelow}
use Rattle.ca_verify.proofs.decide.primes.prime_factor.Given as goal

-- no number below `low` divides the rest
abbrev pub invariant-factors : goal.invariant-factors
invariant-factors l = record {
  some : 2 ≤ l.low;
  within : l.low ≤ l.rest;
  most : l.rest ≤ l.n;
  part : l.rest ∣ l.n;
  none : NoneBelow l.rest l.low;
}

abbrev pub decreases-factors : goal.decreases-factors
decreases-factors l = l.rest + 1 - l.low
