use Rattle.std.proofs.Common.{◌/◌, arith}
use Rattle.std.proofs.Math.Nat.{dvd_trans, dvd_of_mod-eq-zero}
use Rattle.ca_steps.proofs.Primes.{quotient_some, divides_without}
use Rattle.ca_verify.proofs.PrimeFactors.{quotient_less, quotient_divides}
use Rattle.ca_verify.proofs.decide.primes.without_prime.Goals as goal

pub factors-init : goal.factors-init
factors-init c = record {
  some = quotient_some c.args.n c.args.prime c.requires.some c.requires.prime c.requires.divides;
  less = quotient_less c.args.n c.args.prime c.requires.some c.requires.prime;
  part = quotient_divides c.args.n c.args.prime c.requires.divides;
  keeps = λ m part not. divides_without c.args.prime c.args.n m c.requires.prime c.requires.divides part not;
}

pub factors-preserved : goal.factors-preserved
factors-preserved c =
    let divides = dvd_of_mod-eq-zero c.args.prime c.factors-test.true in
    let less = quotient_less c.factors.rest c.args.prime c.factors.invariant.some c.requires.prime in
    record {
      some = quotient_some c.factors.rest c.args.prime c.factors.invariant.some c.requires.prime divides;
      less = omega (arith, less, c.factors.invariant.less);
      part = dvd_trans (c.factors.rest / c.args.prime) (quotient_divides c.factors.rest c.args.prime divides) c.factors.invariant.part;
      keeps = λ m part not. divides_without c.args.prime c.factors.rest m c.requires.prime divides (c.factors.invariant.keeps m part not) not;
    }
