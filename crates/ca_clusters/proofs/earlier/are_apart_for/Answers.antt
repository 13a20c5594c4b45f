use Rattle.std.proofs.Common.{refl, arith, subst}
use Rattle.std.specs.List.{AllPairs}
use Rattle.std.proofs.lemmas.List.{take_all}
use Rattle.ca_clusters.specs.inner.Earlier.{AreApartUpTo, AreAlwaysApart}
use Rattle.ca_clusters.proofs.ApartCourses.{all_before, pairs_before_more}
use Rattle.ca_clusters.proofs.earlier.are_apart_for.Goals as goal

pub returns-then-not-is_apart_from_all-clause-meet :
    goal.returns-then-not-is_apart_from_all-clause-meet
returns-then-not-is_apart_from_all-clause-meet c = λ is pairs.
    c.if-not-is_apart_from_all.ensures.meet refl
    (all_before AreAlwaysApart c.args.courses.now c.courses.other c.index-courses-other.result (omega arith) c.index-courses-other.is pairs)

pub courses-preserved : goal.courses-preserved
courses-preserved c =
    pairs_before_more (AreApartUpTo c.args.n) c.args.courses.now c.courses.other c.index-courses-other.result (omega arith) c.index-courses-other.is c.courses.invariant
    (c.if-not-is_apart_from_all.ensures.apart refl)

pub returns-clause-apart : goal.returns-clause-apart
returns-clause-apart c = λ is. subst (AllPairs (AreApartUpTo c.args.n)) (take_all c.courses.other c.args.courses.now (omega arith)) c.courses.invariant
