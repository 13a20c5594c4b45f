use Rattle.std.proofs.Common.{◌-◌, ◌/◌, arith, rules, refl, subst, w64, SFits}
use Rattle.std.specs.Prelude.{ℤ}
use Rattle.std.proofs.Math.Nat.{div-le_self}
use Rattle.std.proofs.lemmas.Int.{to_z-of_z}
use Rattle.ca_run.proofs.LeaperGrowth.{goes_on_same, goes_on_again}
use Rattle.ca_steps.proofs.Primes.{quotient_some}
use Rattle.ca_plane.specs.Prelude.{Picture}
use Rattle.ca_text.specs.Prelude.{ShowsNothingForbidden}
use Rattle.ca_pattern.specs.Prelude.{ShowsTree}
use Rattle.ca_verify.specs.inner.Subjects.{IsBackBy, IsNarrowed}
use Rattle.ca_verify.proofs.LeaptTrees.{forbids_stays}
use Rattle.ca_pattern.proofs.LeaptTrees.{shows_stays}
use Rattle.ca_verify.proofs.DividedReturns.{return_is_some, all_left, back_sooner, not_sooner, none_sooner, first_found}
use Rattle.ca_verify.proofs.PrimeFactors.{quotient_less}
use Rattle.ca_verify.proofs.Spending.{takes_none, takes_one_more}
use Rattle.ca_verify.proofs.decide.returns.first_return.Goals as goal

pub primes-init : goal.primes-init
primes-init g c =
    let case = c.args.case.now in
    let n = case.asks.generations in
    let some = c.requires.subject.bounded.some (return_is_some case.asks.forbidden c.requires.forbidden) in
    record {
      goes_on = goes_on_same _ c.args.leaper.now c.requires.subject.sound;
      narrowed = all_left (g.A.Automaton.next_of c.args.leaper.now.rule) c.args.leaper.now.nodes case some;
      some = some;
      within = omega arith;
      takes = takes_none c.args.leaper.now.spent c.args.leaper.now.spent (n - n) case.subject.pattern.level n refl;
    }

pub prime_factor-prime-requires-clause-few : goal.prime_factor-prime-requires-clause-few
prime_factor-prime-requires-clause-few g c = let short = c.requires.subject.bounded.short c.requires.forbidden in omega (arith, short, c.primes.invariant.within)

pub return_at-requires-clause-case : goal.return_at-requires-clause-case
return_at-requires-clause-case g c = forbids_stays c.args.leaper.now.nodes c.primes.leaper.nodes c.requires.subject.sound c.primes.invariant.goes_on.grows c.args.case.now c.requires

pub return_at-requires-clause-few : goal.return_at-requires-clause-few
return_at-requires-clause-few g c =
    let sooner = div-le_self c.primes.time c.prime_factor-prime.result in
    omega (arith, sooner, c.primes.invariant.narrowed.within, c.requires.subject.bounded.few)

pub primes-preserved-in-Some : goal.primes-preserved-in-Some
primes-preserved-in-Some g c =
    let next = g.A.Automaton.next_of in
    let s0 = c.args.leaper.now.nodes in
    let case = c.args.case.now in
    let inv = c.primes.invariant in
    let q = c.prime_factor-prime.result in
    let prime = c.prime_factor-prime.ensures.prime in
    let divides = c.prime_factor-prime.ensures.divides in
    let m = c.primes.time / q in
    let left = quotient_less c.primes.left q inv.some prime in
    let sooner = div-le_self c.primes.time q in
    let vector : ℤ × ℤ = c.in-Some.vector in
    let tried : (cells : Picture) → ShowsTree s0 case.subject.pattern cells → IsBackBy (next c.args.leaper.now.rule) cells case.asks.forbidden m vector = λ cells shows.
    let later = shows_stays s0 c.primes.leaper.nodes c.requires.subject.sound inv.goes_on.grows case.subject.pattern cells c.requires.subject.pattern.is_tree shows in
    subst (λ r. IsBackBy (next r) cells case.asks.forbidden m vector) inv.goes_on.rule (rw c.in-Some.is at (c.in_ok-vector.ensures.back cells later)) in
    record {
      goes_on = goes_on_again _ c.args.leaper.now c.primes.leaper c.return_at.new.leaper inv.goes_on c.in_ok-vector.ensures.goes_on;
      narrowed = back_sooner (next c.args.leaper.now.rule) s0 case c.primes.time c.primes.left q c.primes.found prime divides inv.narrowed vector tried;
      some = quotient_some c.primes.left q inv.some prime divides;
      within = omega (arith, left, inv.within);
      takes = takes_one_more _ _ _ _ case.subject.pattern.level case.asks.generations (case.asks.generations - c.primes.left) m (omega (arith, left, inv.within)) (omega (arith, sooner, inv.narrowed.within)) inv.takes c.in_ok-vector.ensures.takes;
    }

pub primes-preserved : goal.primes-preserved
primes-preserved g c =
    let next = g.A.Automaton.next_of in
    let s0 = c.args.leaper.now.nodes in
    let case = c.args.case.now in
    let inv = c.primes.invariant in
    let q = c.prime_factor-prime.result in
    let prime = c.prime_factor-prime.ensures.prime in
    let divides = c.prime_factor-prime.ensures.divides in
    let m = c.primes.time / q in
    let rest = c.without_prime-left.ensures in
    let sooner = div-le_self c.primes.time q in
    let tried : (cells : Picture) → ShowsTree s0 case.subject.pattern cells → ShowsNothingForbidden (next c.args.leaper.now.rule) cells case.asks.forbidden m = λ cells shows.
    let later = shows_stays s0 c.primes.leaper.nodes c.requires.subject.sound inv.goes_on.grows case.subject.pattern cells c.requires.subject.pattern.is_tree shows in
    subst (λ r. ShowsNothingForbidden (next r) cells case.asks.forbidden m) inv.goes_on.rule (rw c.in-None.is at (c.in_ok-vector.ensures.back cells later)) in
    record {
      goes_on = goes_on_again _ c.args.leaper.now c.primes.leaper c.return_at.new.leaper inv.goes_on c.in_ok-vector.ensures.goes_on;
      narrowed = not_sooner (next c.args.leaper.now.rule) s0 case c.primes.time c.primes.left q c.primes.found prime divides inv.narrowed c.requires.forbidden c.without_prime-left.result rest.part rest.keeps tried;
      some = rest.some;
      within = omega (arith, rest.less, inv.within);
      takes = takes_one_more _ _ _ _ case.subject.pattern.level case.asks.generations (case.asks.generations - c.primes.left) m (omega (arith, rest.less, inv.within)) (omega (arith, sooner, inv.narrowed.within)) inv.takes c.in_ok-vector.ensures.takes;
    }

pub returns-in_default-clause-refutation : goal.returns-in_default-clause-refutation
returns-in_default-clause-refutation g c = λ cells shows u v may back.
    none_sooner (g.A.Automaton.next_of c.args.leaper.now.rule) c.args.leaper.now.nodes c.args.case.now c.primes.time c.primes.left (omega (arith, c.primes-test.false))
    (subst (IsNarrowed (g.A.Automaton.next_of c.args.leaper.now.rule) c.args.leaper.now.nodes c.args.case.now c.primes.time c.primes.left) c.in_default.is c.primes.invariant.narrowed) cells shows u v may back

pub returns-clause-refutation : goal.returns-clause-refutation
returns-clause-refutation g c = λ cells shows u v may back.
    let next = g.A.Automaton.next_of c.args.leaper.now.rule in
    let s0 = c.args.leaper.now.nodes in
    let case = c.args.case.now in
    let vector : ℤ × ℤ = (c.in-Some-found.dx, c.in-Some-found.dy) in
    let dx : SFits w64 c.in-Some-found.dx = search rules in
    let dy : SFits w64 c.in-Some-found.dy = search rules in
    let narrowed = subst (IsNarrowed next s0 case c.primes.time c.primes.left) c.in-Some-found.is c.primes.invariant.narrowed in
    rw (to_z-of_z w64 c.in-Some-found.dx dx, to_z-of_z w64 c.in-Some-found.dy dy) (first_found next s0 case c.primes.time c.primes.left vector (omega (arith, c.primes-test.false)) narrowed cells shows)
