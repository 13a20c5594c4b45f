use Rattle.std.proofs.Common.{sym, subst, ◌∙◌}
use Rattle.ca_plane.specs.Prelude.{Picture}
use Rattle.ca_plane.specs.inner.Places.{ComeBefore}
use Rattle.ca_plane.proofs.Places.{before-end, Less-from_is_lt}
use Rattle.ca_plane.proofs.plane.Plane.ends_before.Goals as goal

pub returns-in-Some : goal.returns-in-Some
returns-in-Some c =
    λ h.
    let split = sym c.deref.ensures.value ∙ c.in-Some.ensures.cases.0 in
    let less = Less-from_is_lt _ (sym c.is_lt.ensures ∙ h) in
    subst (λ (p : Picture). ComeBefore c.args.at p) c.self.view_is (before-end _ _ c.in-Some.field-0-0.now c.args.at split c.self.invariant (sym c.cmp.ensures ∙ less))
