use Rattle.std.proofs.Common.{◌≡◌, ℕ, sym, subst, ap, ◌∙◌}
use Rattle.ca_plane.specs.declared.point.Point.{Point}
use Rattle.ca_plane.specs.Prelude.{Picture, cell}
use Rattle.ca_plane.specs.inner.Places.{IsAt}
use Rattle.ca_plane.proofs.Places.{cell-at_place, cell-at_gap}
use Rattle.ca_plane.proofs.plane.Plane.get.Goals as goal

pub returns-in-Ok : goal.returns-in-Ok
returns-in-Ok c =
    let there : IsAt c.self.inside.cells.items c.args.at c.in-Ok.place = rw c.self.view_is c.in-Ok.ensures.found in
    let shown = cell-at_place c.self.inside.cells.items c.args.at c.in-Ok.place c.index.result.now c.self.invariant there in
    subst (λ (p : Picture). c.index.result.now.1 ≡ cell p c.args.at.x c.args.at.y) c.self.view_is (ap (λ (e : Point × ℕ). e.1) c.index.ensures ∙ sym shown)

pub returns-in-Err : goal.returns-in-Err
returns-in-Err c = sym (cell-at_gap _ _ _ c.in-Err.ensures.absent)
