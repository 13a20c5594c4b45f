use Rattle.std.proofs.Common.{refl, ◌∙◌, w64, to_z, of_z}
use Rattle.std.proofs.lemmas.Int.{to_z-of_z}
use Rattle.std.proofs.lemmas.List.Elements.{All-push}
use Rattle.ca_plane.specs.Prelude.{IsInPlane, moved}
use Rattle.ca_plane.proofs.Pictures.{IsListed-turn}
use Rattle.ca_plane.proofs.Shifts.{LeavesPlane-listed}
use Rattle.ca_plane.proofs.plane.Plane.stays.Goals as goal

pub cells-preserved : goal.cells-preserved
cells-preserved c =
    let dx = to_z w64 (of_z w64 c.args.dx) in
    let dy = to_z w64 (of_z w64 c.args.dy) in
    All-push (λ e. IsInPlane (moved e.0 dx dy)) c.cells.yielded _ c.cells.invariant (c.if-not-stays.ensures.0 refl)

pub returns-then-not-stays-clause-leaves : goal.returns-then-not-stays-clause-leaves
returns-then-not-stays-clause-leaves c =
    let listed = IsListed-turn c.args.self.now _ _ _ _ _ _ c.cells-point-items.ensures.sparse (c.into_iter-point-iterator.ensures.into_iter_gives ∙ c.cells-point-items.ensures.all) c.cells.yielded_by c.in-Some.is c.next.ensures.steps in
    λ _. rw (← to_z-of_z w64 c.args.dx c.ranges.dx, ← to_z-of_z w64 c.args.dy c.ranges.dy) (LeavesPlane-listed c.args.self.now _ (to_z w64 (of_z w64 c.args.dx)) (to_z w64 (of_z w64 c.args.dy)) listed c.if-not-stays.ensures.1)
