use Rattle.std.proofs.Common.{◌≡◌, ◌≤◌, ℕ, List, length, map, take, refl, sym, ap, ◌∙◌, subst, arith}
use Rattle.std.specs.Prelude.{ℤ}
use Rattle.std.specs.List.{AllPairs, AllZip}
use Rattle.std.proofs.lemmas.List.{take_all}
use Rattle.std.proofs.lemmas.List.Elements.{all_zip_more}
use Rattle.ca_plane.specs.Prelude.{Picture, cell}
use Rattle.ca_parts.specs.Prelude.{Course, together}
use Rattle.ca_clusters.specs.declared.fault.ClusterFault.TheVariants.{Range}
use Rattle.ca_clusters.specs.Clusters.{first_plane, GoesRound}
use Rattle.ca_clusters.specs.inner.Earlier.{IsEarlierCourse, AreApartUpTo, AreAlwaysApart}
use Rattle.ca_parts.proofs.PartedTracks.{untrue}
use Rattle.ca_clusters.proofs.ApartCourses.{BeginApart}
use Rattle.ca_clusters.proofs.EarlierCourses.{passed_on}
use Rattle.ca_clusters.proofs.EarlierClusters.{all_begin_apart, AreClusters-from_apart, whole_from_settled, apart_from_settled}
use Rattle.ca_clusters.proofs.earlier.earlier_clusters.Goals as goal

pub returns-in_err-earlier_course-clause-range : goal.returns-in_err-earlier_course-clause-range
returns-in_err-earlier_course-clause-range c = λ next quiet are few is.
    let cluster : Course = c.cluster-item.result in
    let round : GoesRound next cluster = subst (GoesRound next) (sym c.cluster-item.is) (are.round c.clusters.cluster-index cluster (omega arith)) in (
      c.clusters.cluster-index,
      cluster,
      omega arith,
      sym c.cluster-item.is,
      c.in_err-earlier_course.ensures.range next quiet round few
          (passed_on c.from_residual-in_err-earlier_course.result c.in_err-earlier_course.field-0.0 Range c.from_residual-in_err-earlier_course.ensures.1 is),
    )

pub clusters-preserved : goal.clusters-preserved
clusters-preserved c =
    rw c.in_ok-push.ensures.items
    (all_zip_more (IsEarlierCourse c.args.n) c.args.clusters.now c.clusters.earlier.items c.clusters.cluster-index c.cluster-item.result c.in_ok-earlier_course.field-0 (omega arith) c.cluster-item.is
    c.clusters.invariant c.in_ok-earlier_course.ensures.course)

-- the loop was through all clusters
all_earlier : (n : ℕ) (clusters earlier : List Course) (k : ℕ) → length clusters ≤ k → AllZip (IsEarlierCourse n) (take k clusters) earlier → AllZip (IsEarlierCourse n) clusters earlier
all_earlier n clusters earlier k all zip = subst (λ (cs : List Course). AllZip (IsEarlierCourse n) cs earlier) (take_all k clusters all) zip

-- what shows the first planes of some courses shows those of the same ones
union_shown : (q : Picture) (ds es : List Course) → ds ≡ es → (AllPairs BeginApart ds → (x y : ℤ) → cell q x y ≡ together (map first_plane ds) x y) → AllPairs BeginApart es
    → (x y : ℤ) → cell q x y ≡ together (map first_plane es) x y
union_shown q ds es is shown pairs x y = shown (subst (AllPairs BeginApart) (sym is) pairs) x y ∙ ap (λ (cs : List Course). together (map first_plane cs) x y) is

pub returns-then-not-are_apart_for-clause-unsettled :
    goal.returns-then-not-are_apart_for-clause-unsettled
returns-then-not-are_apart_for-clause-unsettled c = λ next quiet are none settled.
    let zip = all_earlier c.args.n c.args.clusters.now c.clusters.earlier.items c.clusters.cluster-index (omega arith) c.clusters.invariant in
    c.if-not-are_apart_for.ensures.meet refl
    (subst (AllPairs AreAlwaysApart) (sym c.deref.ensures.value) (apart_from_settled next quiet c.args.n (cell c.args.plane.now) c.args.clusters.now c.clusters.earlier.items are zip settled))

pub returns-then-not-same-clause-unsettled : goal.returns-then-not-same-clause-unsettled
returns-then-not-same-clause-unsettled c = λ next quiet are none settled.
    let zip = all_earlier c.args.n c.args.clusters.now c.clusters.earlier.items c.clusters.cluster-index (omega arith) c.clusters.invariant in
    let pairs : AllPairs (AreApartUpTo c.args.n) c.clusters.earlier.items = subst (AllPairs (AreApartUpTo c.args.n)) c.deref.ensures.value (c.if-not-are_apart_for.ensures.apart refl) in
    let shown = union_shown c.in_ok-union_of.field-0 c.deref-2.result.now c.clusters.earlier.items c.deref-2.ensures.value c.in_ok-union_of.ensures
    (all_begin_apart next quiet c.args.n (cell c.args.plane.now) c.args.clusters.now c.clusters.earlier.items are zip pairs) in
    let whole = whole_from_settled next quiet c.args.n (cell c.args.plane.now) c.args.clusters.now c.clusters.earlier.items are zip settled in
    untrue (c.if-not-same.ensures.1 (λ x y. shown x y ∙ sym (whole x y)))

pub returns-clause-clusters : goal.returns-clause-clusters
returns-clause-clusters c = λ next quiet are.
    let zip = all_earlier c.args.n c.args.clusters.now c.clusters.earlier.items c.clusters.cluster-index (omega arith) c.clusters.invariant in
    let pairs : AllPairs (AreApartUpTo c.args.n) c.clusters.earlier.items = subst (AllPairs (AreApartUpTo c.args.n)) c.deref.ensures.value (c.if-not-are_apart_for.ensures.apart refl) in
    let shown = union_shown c.in_ok-union_of.field-0 c.deref-2.result.now c.clusters.earlier.items c.deref-2.ensures.value c.in_ok-union_of.ensures
    (all_begin_apart next quiet c.args.n (cell c.args.plane.now) c.args.clusters.now c.clusters.earlier.items are zip pairs) in
    AreClusters-from_apart next quiet c.args.n (cell c.args.plane.now) c.args.clusters.now c.clusters.earlier.items are zip pairs
    (λ x y. sym (c.if-not-same.ensures.0 refl x y) ∙ shown x y)
