use Rattle.std.proofs.Common.{sym, subst}
use Rattle.ca_plane.specs.Prelude.{Picture}
use Rattle.ca_plane.proofs.Boxes.{IsBoxBefore, IsBoxBefore-first, IsBoxBefore-turn}
use Rattle.ca_plane.proofs.plane.Plane.bounds.Goals as goal

pub cells-init : goal.cells-init
cells-init c =
    subst (λ (t : Picture). IsBoxBefore c.args.self.now t c.of-bounds.result) (sym c.into_iter-point-iterator.ensures.into_iter_gives)
    (IsBoxBefore-first c.args.self.now _ _ _ (c.in_ok-first.first, c.in_ok-first.field-0-1) c.of-bounds.result c.cells-cells.ensures.sparse c.cells-cells.ensures.all c.in_ok-first.was c.next.ensures.steps c.of-bounds.ensures.x0 c.of-bounds.ensures.y0 c.of-bounds.ensures.x1 c.of-bounds.ensures.y1)

pub cells-preserved : goal.cells-preserved
cells-preserved c =
    IsBoxBefore-turn c.args.self.now _ _ _ (c.in-Some.point, c.in-Some.field-0-1) c.cells.bounds c.with_point-bounds.result c.cells-cells.ensures.sparse c.cells.invariant c.in-Some.is c.next-in-cells.ensures.steps
    (record { x0 = c.with_point-bounds.ensures.x0; y0 = c.with_point-bounds.ensures.y0; x1 = c.with_point-bounds.ensures.x1; y1 = c.with_point-bounds.ensures.y1 })
