use Rattle.std.proofs.Common.{◌≡◌, ℕ, pos, ◌+ℤ◌, w64, to_z, of_z, refl, sym, subst, ap, arith}
use Rattle.std.proofs.lemmas.Int.{ints}
use Rattle.ca_plane.specs.declared.point.Point.{Point}
use Rattle.ca_plane.specs.Prelude.{Picture}
use Rattle.ca_rle.proofs.RunByRun.{IsReadBefore, next-first, next-turn, read-first, read-more, read-next, read-last, before-first_run, before-turn, before-end}
use Rattle.ca_rle.proofs.StatesOf.{have_states}
use Rattle.ca_rle.proofs.write.runs.items.Goals as goal

pub push_gap-requires-clause-below : goal.push_gap-requires-clause-below
push_gap-requires-clause-below c =
    (next-first c.args.cells.now _ _ c.args.corner _ (c.in-Some.first, c.in-Some.state) c.cells-left.ensures.sparse c.requires c.cells-left.ensures.all c.in-Some.is c.next.ensures.steps).below

pub push_gap-requires-clause-right : goal.push_gap-requires-clause-right
push_gap-requires-clause-right c = λ _.
    (next-first c.args.cells.now _ _ c.args.corner _ (c.in-Some.first, c.in-Some.state) c.cells-left.ensures.sparse c.requires c.cells-left.ensures.all c.in-Some.is c.next.ensures.steps).right

pub push_gap-requires-clause-left : goal.push_gap-requires-clause-left
push_gap-requires-clause-left c =
    let next = next-first c.args.cells.now _ _ c.args.corner _ (c.in-Some.first, c.in-Some.state) c.cells-left.ensures.sparse c.requires c.cells-left.ensures.all c.in-Some.is c.next.ensures.steps in
    omega (arith, ints, next.right)

pub of-run-requires : goal.of-run-requires
of-run-requires c =
    (next-first c.args.cells.now _ _ c.args.corner _ (c.in-Some.first, c.in-Some.state) c.cells-left.ensures.sparse c.requires c.cells-left.ensures.all c.in-Some.is c.next.ensures.steps).end

pub cells-init : goal.cells-init
cells-init c =
    let e : Point × ℕ = (c.in-Some.first, c.in-Some.state) in
    let next = next-first c.args.cells.now _ _ c.args.corner _ e c.cells-left.ensures.sparse c.requires c.cells-left.ensures.all c.in-Some.is c.next.ensures.steps in
    let read = read-first c.args.corner _ _ c.push_gap.new.items.items c.of-run.result e (omega (arith, ints)) c.new-items.ensures.items c.in_ok-push_gap.ensures next.live c.of-run.ensures.from c.of-run.ensures.past c.of-run.ensures.state in
    subst (λ (left : Picture). IsReadBefore c.args.cells.now c.args.corner c.push_gap.new.items.items c.of-run.result left) (sym c.into_iter-point-iterator.ensures.into_iter_gives)
    (before-first_run c.args.cells.now _ _ c.args.corner _ c.of-run.result _ e c.cells-left.ensures.sparse c.cells-left.ensures.all c.in-Some.is c.next.ensures.steps (ap (λ p. p.y) c.of-run.ensures.from) c.of-run.ensures.past read)

pub overflow_add-run : goal.overflow_add-run
overflow_add-run c =
    let next = next-turn c.args.cells.now _ _ c.args.corner _ _ _ (c.in-Some-2.point, c.in-Some-2.state) c.cells-left.ensures.sparse c.requires c.cells.invariant c.in-Some-2.is c.next-in-cells.ensures.steps in
    omega (arith, ints, next.end)

pub push_gap-requires-in-cells-clause-left : goal.push_gap-requires-in-cells-clause-left
push_gap-requires-in-cells-clause-left c =
    let next = next-turn c.args.cells.now _ _ c.args.corner _ _ _ (c.in-Some-2.point, c.in-Some-2.state) c.cells-left.ensures.sparse c.requires c.cells.invariant c.in-Some-2.is c.next-in-cells.ensures.steps in
    omega (arith, ints, next.right)

pub of-run-requires-in-cells : goal.of-run-requires-in-cells
of-run-requires-in-cells c =
    (next-turn c.args.cells.now _ _ c.args.corner _ _ _ (c.in-Some-2.point, c.in-Some-2.state) c.cells-left.ensures.sparse c.requires c.cells.invariant c.in-Some-2.is c.next-in-cells.ensures.steps).end

pub cells-preserved-then-goes_on : goal.cells-preserved-then-goes_on
cells-preserved-then-goes_on c =
    let e : Point × ℕ = (c.in-Some-2.point, c.in-Some-2.state) in
    let place = c.if-goes_on.ensures.yes refl in
    let next = next-turn c.args.cells.now _ _ c.args.corner _ _ _ e c.cells-left.ensures.sparse c.requires c.cells.invariant c.in-Some-2.is c.next-in-cells.ensures.steps in
    let past : to_z w64 (of_z w64 (to_z w64 (of_z w64 c.in-Some-2.point.x) +ℤ pos 1)) ≡ c.in-Some-2.point.x +ℤ pos 1 = omega (arith, ints, next.end) in
    before-turn c.args.cells.now _ _ c.args.corner _ _ c.cells.run _ _ e c.cells-left.ensures.sparse c.cells.invariant c.in-Some-2.is c.next-in-cells.ensures.steps (sym place.0) past
    (read-more c.args.corner _ c.cells.run _ _ e c.cells.invariant.read refl past refl place.0 place.1 place.2)

pub cells-preserved : goal.cells-preserved
cells-preserved c =
    let e : Point × ℕ = (c.in-Some-2.point, c.in-Some-2.state) in
    let next = next-turn c.args.cells.now _ _ c.args.corner _ _ _ e c.cells-left.ensures.sparse c.requires c.cells.invariant c.in-Some-2.is c.next-in-cells.ensures.steps in
    before-turn c.args.cells.now _ _ c.args.corner _ _ c.cells.run c.of-run-in-cells.result _ e c.cells-left.ensures.sparse c.cells.invariant c.in-Some-2.is c.next-in-cells.ensures.steps
    (ap (λ p. p.y) c.of-run-in-cells.ensures.from) c.of-run-in-cells.ensures.past
    (read-next c.args.corner _ _ c.push.new.self.items _ c.cells.run c.of-run-in-cells.result _ e c.item.result c.end.result c.cells.invariant.read c.item.ensures.tag c.item.ensures.count c.end.ensures.y c.end.ensures.x
    c.in_ok-push.ensures.items (omega (arith, ints)) c.in_ok-push_gap-2.ensures next.live (c.if-goes_on.ensures.no refl)
    c.of-run-in-cells.ensures.from c.of-run-in-cells.ensures.past c.of-run-in-cells.ensures.state)

pub returns-clause-tidy : goal.returns-clause-tidy
returns-clause-tidy c =
    let read = before-end c.args.cells.now _ _ c.args.corner _ _ _ c.cells.invariant c.in-None.is c.next-in-cells.ensures.steps in
    (read-last c.args.corner c.cells.items.items c.push-2.new.self.items c.cells.run c.args.cells.now c.item-2.result read c.item-2.ensures.tag c.item-2.ensures.count c.in_ok-push-2.ensures.items).0

pub returns-clause-shown : goal.returns-clause-shown
returns-clause-shown c =
    let read = before-end c.args.cells.now _ _ c.args.corner _ _ _ c.cells.invariant c.in-None.is c.next-in-cells.ensures.steps in
    (read-last c.args.corner c.cells.items.items c.push-2.new.self.items c.cells.run c.args.cells.now c.item-2.result read c.item-2.ensures.tag c.item-2.ensures.count c.in_ok-push-2.ensures.items).1

pub returns-clause-states : goal.returns-clause-states
returns-clause-states c = λ n below.
    have_states n c.args.corner c.args.cells.now _ (returns-clause-tidy c) (returns-clause-shown c) c.cells-left.ensures.sparse.states below
