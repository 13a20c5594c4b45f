use Rattle.std.proofs.Common.{refl, w64}
use Rattle.std.proofs.lemmas.Int.{to_z-of_z}
use Rattle.ca_plane.proofs.Shifts.{not_LeavesPlane, not_Range, not_Err, IsSparse-shifted}
use Rattle.ca_plane.proofs.plane.Plane.translated.Goals as goal

pub invariant_of-result : goal.invariant_of-result
invariant_of-result c = rw c.in_ok-cells.ensures.moved (IsSparse-shifted c.args.self.now _ _ c.in_ok-cells.ensures.sparse (c.if-not-stays.ensures.stays refl))

pub returns-clause-sparse : goal.returns-clause-sparse
returns-clause-sparse c = invariant_of-result c

pub returns-in_err-cells-clause-range : goal.returns-in_err-cells-clause-range
returns-in_err-cells-clause-range c =
    let stays = simp (to_z-of_z w64 c.args.dx c.ranges.dx, to_z-of_z w64 c.args.dy c.ranges.dy) at (c.if-not-stays.ensures.stays refl) in
    (λ h. absurd (not_Range _ c.from_residual.ensures.1 h), λ leaves. absurd (not_LeavesPlane c.args.self.now c.args.dx c.args.dy stays leaves))

pub returns-clause-range : goal.returns-clause-range
returns-clause-range c =
    let stays = simp (to_z-of_z w64 c.args.dx c.ranges.dx, to_z-of_z w64 c.args.dy c.ranges.dy) at (c.if-not-stays.ensures.stays refl) in
    (λ h. absurd (not_Err _ _ h), λ leaves. absurd (not_LeavesPlane c.args.self.now c.args.dx c.args.dy stays leaves))

pub returns-clause-within : goal.returns-clause-within
returns-clause-within c =
    let stays = simp (to_z-of_z w64 c.args.dx c.ranges.dx, to_z-of_z w64 c.args.dy c.ranges.dy) at (c.if-not-stays.ensures.stays refl) in
    λ ok. not_LeavesPlane c.args.self.now c.args.dx c.args.dy stays
