use Rattle.std.proofs.Common.{refl, sym, subst, arith}
use Rattle.std.proofs.lemmas.List.Elements.{AllWithin-more, at_read}
use Rattle.ca_parts.specs.Prelude.{Course}
use Rattle.ca_clusters.specs.inner.Earlier.{AreApartUpTo, AreAlwaysApart}
use Rattle.ca_clusters.proofs.earlier.is_apart_from_all.Goals as goal

pub returns-then-do_meet-clause-meet : goal.returns-then-do_meet-clause-meet
returns-then-do_meet-clause-meet c = λ is all.
    c.if-do_meet.ensures.meet refl
    (subst (λ (one : Course). AreAlwaysApart one c.args.other.now) (sym c.course-item.is) (all c.courses.course-index c.course-item.result (omega arith)))

pub courses-preserved : goal.courses-preserved
courses-preserved c =
    AllWithin-more (λ (one : Course). AreApartUpTo c.args.n one c.args.other.now) c.args.courses.now 0 c.courses.course-index c.courses.invariant
    (at_read c.args.courses.now (λ (one : Course). AreApartUpTo c.args.n one c.args.other.now) c.courses.course-index c.course-item.result (omega arith) c.course-item.is (c.if-do_meet.ensures.apart refl))

pub returns-clause-apart : goal.returns-clause-apart
returns-clause-apart c = λ is k d low. c.courses.invariant k d (omega arith) (omega arith)
