use Rattle.std.proofs.Common.{◌≡◌, ◌≢◌, ap, ◌∙◌, arith}
use Rattle.std.proofs.lemmas.Int.{ints}
use Rattle.std.proofs.lemmas.Result.{IfOk-weaker}
use Rattle.ca_plane.specs.declared.point.Point.{Point}
use Rattle.ca_rle.specs.Prelude.{tag_state}
use Rattle.ca_rle.specs.inner.Extent.{point_from, cells_from}
use Rattle.ca_rle.specs.inner.RunByRun.{AddsCells, AddsRun, EndsAfter}
use Rattle.ca_rle.proofs.MergedRuns.{adds_live}
use Rattle.ca_rle.proofs.write.again.place_cells.Goals as goal

pub point-from-requires-clause-point : goal.point-from-requires-clause-point
point-from-requires-clause-point c = (c.requires.room (λ z. c.if-state-eq0.false (c.state-state.ensures ∙ z))).0

pub overflow_add-past : goal.overflow_add-past
overflow_add-past c =
    let room = c.requires.room (λ z. c.if-state-eq0.false (c.state-state.ensures ∙ z)) in
    let column = ap (λ (p : Point). p.x) c.point-from.ensures in
    omega (arith, ints, column, room.0.0, room.0.1, room.1)

pub returns-clause-cells : goal.returns-clause-cells
returns-clause-cells c =
    let live : tag_state c.args.item.tag ≢ 0 = λ z. c.if-state-eq0.false (c.state-state.ensures ∙ z) in
    let room = c.requires.room live in
    let column = ap (λ (p : Point). p.x) c.point-from.ensures in
    let at = point_from c.args.start c.args.at in
    let new = c.place_next.new.out.items in
    IfOk-weaker c.place_next.result (AddsRun c.args.states c.args.corner c.args.out.now.items c.args.pending _ new) (AddsCells c.args.states c.args.corner c.args.out.now.items c.args.pending (cells_from at c.args.item) new)
    (λ to adds. adds_live c.args.states c.args.corner at c.args.out.now.items new c.args.pending to c.args.item _ live c.requires.some c.point-from.ensures (omega (arith, ints, column, room.0.0, room.0.1, room.1)) c.state-state.ensures adds) c.place_next.ensures.cells

pub returns-clause-live : goal.returns-clause-live
returns-clause-live c = λ live.
    let room = c.requires.room live in
    let column = ap (λ (p : Point). p.x) c.point-from.ensures in
    let row = ap (λ (p : Point). p.y) c.point-from.ensures in
    IfOk-weaker c.place_next.result (λ p. (p.run.from.y ≡ c.point-from.result.y) × (p.run.past ≡ _)) (λ p. EndsAfter (point_from c.args.start c.args.at) c.args.item.count p.run)
    (λ p ends. (ends.0 ∙ row, ends.1 ∙ omega (arith, ints, column, room.0.0, room.0.1, room.1))) c.place_next.ensures.end
