use Rattle.std.proofs.Common.{◌≡◌, ◌∙◌, vec_len, ap, subst, length}
use Rattle.ca_plane.specs.Prelude.{Picture, IsLive}
use Rattle.ca_plane.proofs.Pictures.{live_from_nonempty}
use Rattle.ca_plane.proofs.plane.Plane.is_empty.Goals as goal

pub returns-clause-live : goal.returns-clause-live
returns-clause-live c = λ h.
    subst (λ (p : Picture). IsLive p) c.self.view_is (live_from_nonempty c.self.inside.cells.items c.self.invariant.states (λ e. let none : vec_len c.self.inside.cells ≡ 0 = c.self.inside.cells.ok.0 ∙ ap length e in let t = rw none at c.is_empty.ensures in cc))
