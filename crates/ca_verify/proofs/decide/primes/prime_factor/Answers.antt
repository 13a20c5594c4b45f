use Rattle.std.proofs.Common.{◌/◌, arith}
use Rattle.std.proofs.Math.Nat.{div-le_self, dvd_refl, dvd_trans, dvd_of_mod-eq-zero}
use Rattle.ca_verify.proofs.PrimeFactors.{next_within, quotient_within, quotient_divides, none_in_quotient, none_on, prime_alone}
use Rattle.ca_verify.proofs.decide.primes.prime_factor.Goals as goal

pub factors-init : goal.factors-init
factors-init c = record {
  some = omega arith;
  within = c.requires.some;
  most = omega arith;
  part = dvd_refl c.args.n;
  none = λ e more less part. absurd (omega (arith, more, less));
}

pub factors-preserved-then-rest-low-eq0 : goal.factors-preserved-then-rest-low-eq0
factors-preserved-then-rest-low-eq0 c =
    let now = c.factors.invariant in
    let divides = dvd_of_mod-eq-zero c.factors.low c.if-rest-low-eq0.true in
    let less = div-le_self c.factors.rest c.factors.low in
    record {
      some = now.some;
      within = quotient_within c.factors.rest c.factors.low now.some c.factors-test.true;
      most = omega (arith, less, now.most);
      part = dvd_trans (c.factors.rest / c.factors.low) (quotient_divides c.factors.rest c.factors.low divides) now.part;
      none = none_in_quotient c.factors.rest c.factors.low now.none divides;
    }

pub factors-preserved : goal.factors-preserved
factors-preserved c =
    let now = c.factors.invariant in
    record {
      some = omega (arith, now.some);
      within = next_within c.factors.rest c.factors.low now.some c.factors-test.true;
      most = now.most;
      part = now.part;
      none = none_on c.factors.rest c.factors.low now.none c.if-rest-low-eq0.false;
    }

pub returns-clause-prime : goal.returns-clause-prime
returns-clause-prime c =
    let now = c.factors.invariant in
    prime_alone c.factors.rest c.factors.low (omega (arith, now.some, now.within)) now.none (omega (arith, c.factors-test.false))
