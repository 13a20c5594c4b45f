use Rattle.std.proofs.Common.{◌≡◌, ◌+◌, ◌<◌, length, map, subst, refl, arith}
use Rattle.ca_plane.specs.Prelude.{IsSame}
use Rattle.ca_clusters.specs.inner.Groups.{AreRunsOf, GoAlong, IsUnionOf, latest_of}
use Rattle.ca_clusters.proofs.GroupRuns.{AreRunsOf-first, AreRunsOf-later, GoAlong-first, GoAlong-more}
use Rattle.ca_clusters.proofs.objects.groups.run_groups.Goals as goal

pub generations-init : goal.generations-init
generations-init g c =
    let next = g.A.Automaton.next_of c.args.rule.now in
    let count = g.A.Automaton.state_count c.args.rule.now in
    let some : 0 < count = omega (arith, c.states-states.ensures.value, c.states-states.ensures.low) in
    let first = c.in_ok-runs.ensures in
    record {
      runs = AreRunsOf-first next count _ c.args.groups.items c.in_ok-runs.runs.items some c.requires.states c.requires.groups first.starts first.one first.sparse;
      along = GoAlong-first next c.args.cluster.now.planes c.args.groups.items c.requires.groups;
    }

pub whole_of-requires : goal.whole_of-requires
whole_of-requires g c =
    let next = g.A.Automaton.next_of c.args.rule.now in
    let count = g.A.Automaton.state_count c.args.rule.now in
    let one = rw c.in-Some.is at c.in_ok-later.ensures in
    let are = AreRunsOf-later next count c.args.groups.items c.generations.n c.generations.runs.items c.in-Some.later.items c.generations.invariant.runs one in
    rw c.deref.ensures.value (λ k d low. (are.shown k d low).ready.some)

pub returns-in-Some-difference : goal.returns-in-Some-difference
returns-in-Some-difference g c =
    let next = g.A.Automaton.next_of c.args.rule.now in
    let count = g.A.Automaton.state_count c.args.rule.now in
    let one = rw c.in-Some.is at c.in_ok-later.ensures in
    (AreRunsOf-later next count c.args.groups.items c.generations.n c.generations.runs.items c.in-Some.later.items c.generations.invariant.runs one).starts

pub generations-preserved : goal.generations-preserved
generations-preserved g c =
    let next = g.A.Automaton.next_of c.args.rule.now in
    let count = g.A.Automaton.state_count c.args.rule.now in
    let n = c.generations.n in
    let later = c.in-Some.later.items in
    let whole = c.in_ok-whole.whole.plane in
    let one = rw c.in-Some.is at c.in_ok-later.ensures in
    let are = AreRunsOf-later next count c.args.groups.items n c.generations.runs.items later c.generations.invariant.runs one in
    let union = c.in_ok-whole.ensures c.if-not-whole.false in
    let same = c.in_default-difference.ensures.none.0 refl in
    record {
      runs = are;
      along = GoAlong-more next count n c.args.cluster.now.planes c.args.groups.items later whole are
          (subst (λ rs. IsUnionOf (map latest_of rs) whole) c.deref.ensures.value union) (subst (IsSame whole) c.plane.ensures same) c.generations.invariant.along;
    }

pub last_difference-requires : goal.last_difference-requires
last_difference-requires g c =
    let next = g.A.Automaton.next_of c.args.rule.now in
    let count = g.A.Automaton.state_count c.args.rule.now in
    let one = rw c.in-Some-2.is at c.in_ok-last.ensures in
    let are = AreRunsOf-later next count c.args.groups.items c.generations.n c.generations.runs.items c.in-Some-2.last.items c.generations.invariant.runs one in
    rw c.deref-2.ensures.value (λ k d low. (are.shown k d low).ready.some)

pub returns-in-Some-3 : goal.returns-in-Some-3
returns-in-Some-3 g c =
    let next = g.A.Automaton.next_of c.args.rule.now in
    let count = g.A.Automaton.state_count c.args.rule.now in
    let one = rw c.in-Some-2.is at c.in_ok-last.ensures in
    (AreRunsOf-later next count c.args.groups.items c.generations.n c.generations.runs.items c.in-Some-2.last.items c.generations.invariant.runs one).starts

pub returns-in-None : goal.returns-in-None
returns-in-None g c =
    let next = g.A.Automaton.next_of c.args.rule.now in
    let count = g.A.Automaton.state_count c.args.rule.now in
    let n = c.generations.n in
    let planes = c.args.cluster.now.planes in
    let one = rw c.in-Some-2.is at c.in_ok-last.ensures in
    let are = AreRunsOf-later next count c.args.groups.items n c.generations.runs.items c.in-Some-2.last.items c.generations.invariant.runs one in
    let all : n ≡ length planes = omega (arith, c.period-n-end.ensures.value, c.period-n-end.ensures.some) in (
      subst (λ m. AreRunsOf next count c.args.groups.items (m + 1) c.in-Some-2.last.items) all are,
      subst (λ m. GoAlong next planes m c.args.groups.items) all c.generations.invariant.along,
    )
