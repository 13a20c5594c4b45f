use Rattle.std.proofs.Common.{◌≡◌, ◌<◌, ◌≤◌, ◌+◌, ◌-◌, ◌*◌, ℕ, List, length, refl, sym, ap, subst, arith}
use Rattle.std.specs.Prelude.{ℤ}
use Rattle.std.proofs.lemmas.List.{length_push}
use Rattle.std.proofs.lemmas.Int.{ints}
use Rattle.std.proofs.lemmas.Grind.{div_ceil_times}
use Rattle.ca_plane.specs.Prelude.{Picture, IsSame}
use Rattle.ca_parts.specs.Prelude.{Course, plane_at}
use Rattle.ca_clusters.specs.declared.fault.ClusterFault.TheVariants.{Range}
use Rattle.ca_clusters.specs.inner.Earlier.{IsEarlierCourse, shown_from}
use Rattle.ca_clusters.proofs.EarlierCourses.{IsEarlierCourse-from_planes, each_push, passed_on}
use Rattle.ca_clusters.proofs.SlowCourses.{IsCourse-slow, WasOutside-from_leaves}
use Rattle.ca_clusters.proofs.earlier.earlier_course.Goals as goal

-- a course is the one with the same planes and vector
same_course : (planes : List Picture) (a b dx dy : ℤ) (course : Course) → course ≡ record { planes = planes; dx = a; dy = b } → a ≡ dx → b ≡ dy → record { planes = planes; dx = dx; dy = dy } ≡ course
same_course planes a b dx dy course is across down = cc

pub returns-in_err-plane_from-clause-range : goal.returns-in_err-plane_from-clause-range
returns-in_err-plane_from-clause-range c = λ next quiet round few is.
    let n : ℕ = c.args.n in
    let period : ℕ = c.period-period.result in
    let turns : ℕ = c.div_ceil-turns.result in
    let cluster : Course = c.args.cluster.now in
    let bounds : (n ≤ turns * period) × (turns * period < n + period) = rw c.div_ceil-turns.ensures (div_ceil_times n period c.period-period.ensures.some) in
    let first : ℕ = turns * period - n in
    let whole : length cluster.planes ≡ period = sym c.period-period.ensures.value in
    let product : turns * length cluster.planes ≡ turns * period = ap (λ m. turns * m) whole in
    WasOutside-from_leaves next quiet cluster round (omega (arith, whole, c.period-period.ensures.most)) turns first n c.phases.k (omega (arith, bounds, product))
    (omega (arith, c.phases.invariant.long)) (omega (arith, c.phases-test.true, whole)) few (λ across down.
    c.in_err-plane_from.ensures.range across down (passed_on c.from_residual-in_err-plane_from.result c.in_err-plane_from.field-0.0 Range c.from_residual-in_err-plane_from.ensures.1 is))

pub phases-preserved : goal.phases-preserved
phases-preserved c =
    let first : ℕ = c.div_ceil-turns.result * c.period-period.result - c.args.n in
    let q : Picture = c.in_ok-plane_from.field-0 in
    let planes : List Picture = c.phases.planes.items in
    let long : first + length planes ≡ c.phases.k = c.phases.invariant.long in
    let here : IsSame q (shown_from c.args.cluster.now c.div_ceil-turns.result c.phases.k) = c.in_ok-plane_from.ensures.moved in
    rw c.in_ok-push.ensures.items (record {
      long = omega (arith, length_push planes q, long);
      each = each_push (λ j r. IsSame r (shown_from c.args.cluster.now c.div_ceil-turns.result (first + j))) planes q c.phases.invariant.each
          (subst (λ k. IsSame q (shown_from c.args.cluster.now c.div_ceil-turns.result k)) (sym long) here);
    })

pub returns-in-Some-clause-course : goal.returns-in-Some-clause-course
returns-in-Some-clause-course c =
    let n : ℕ = c.args.n in
    let period : ℕ = c.period-period.result in
    let turns : ℕ = c.div_ceil-turns.result in
    let planes : List Picture = c.phases.planes.items in
    let cluster : Course = c.args.cluster.now in
    let bounds : (n ≤ turns * period) × (turns * period < n + period) = rw c.div_ceil-turns.ensures (div_ceil_times n period c.period-period.ensures.some) in
    let first : ℕ = turns * period - n in
    let is : length cluster.planes ≡ period = sym c.period-period.ensures.value in
    let product : turns * length cluster.planes ≡ turns * period = ap (λ m. turns * m) is in
    let long : length planes ≡ length cluster.planes = omega (arith, c.phases.invariant.long, c.phases-test.false, c.phases.auto.k-end, is) in
    let shown : (k : ℕ) → k < length cluster.planes → IsSame (plane_at planes k) (shown_from cluster turns (first + k)) = λ k below. c.phases.invariant.each k (omega (arith, below, long)) in
    let made = IsEarlierCourse-from_planes cluster turns first n planes (omega (arith, bounds, product)) (omega (arith, c.period-period.ensures.some, is)) long shown in
    subst (IsEarlierCourse n cluster)
    (same_course planes _ _ cluster.dx cluster.dy c.in-Some.earlier c.in-Some.ensures.some (omega (arith, ints, c.vector-dx.ensures.across)) (omega (arith, ints, c.vector-dx.ensures.down))) made

pub returns-in-None-clause-range : goal.returns-in-None-clause-range
returns-in-None-clause-range c = λ next quiet round few is.
    let most = c.period-period.ensures.most in
    let some : length c.args.cluster.now.planes ≡ c.period-period.result = sym c.period-period.ensures.value in
    let long : length c.phases.planes.items ≡ length c.args.cluster.now.planes = omega (arith, c.phases.invariant.long, c.phases-test.false, c.phases.auto.k-end, some) in
    let across = c.vector-dx.ensures.across in
    let down = c.vector-dx.ensures.down in
    absurd (c.in-None.ensures.none.0 refl (IsCourse-slow next quiet c.args.cluster.now round (omega (arith, most, some)) _ _ _ long (omega (arith, ints, across)) (omega (arith, ints, down))))
