use Rattle.std.proofs.Common.{refl, subst}
use Rattle.ca_steps.specs.declared.fault.RunFault.TheVariants.{Memory}
use Rattle.ca_steps.specs.Prelude.{IsStepped}
use Rattle.ca_steps.proofs.OutOfReach.{not_IsOutOfReach, leaves_at_once, Steps-ok, Steps-err}
use Rattle.ca_steps.proofs.generations.step.Goals as goal

pub returns-in_err-next_plane : goal.returns-in_err-next_plane
returns-in_err-next_plane g c =
    let inside = c.if-not-is_all_in_reach.ensures.inside refl in
    Steps-err _ _ c.args.plane.now 1 Memory c.from_residual.result c.from_residual.ensures.1 (λ is. cc)
    (λ _ leaves. absurd (not_IsOutOfReach c.args.plane.now inside leaves))

pub returns : goal.returns
returns g c =
    let next = g.A.Automaton.next_of c.args.rule.now in
    let count = g.A.Automaton.state_count c.args.rule.now in
    let p = c.args.plane.now in
    let inside = c.if-not-is_all_in_reach.ensures.inside refl in
    Steps-ok next count p 1 c.in_ok-next_plane.field-0
    (subst (λ cells. IsStepped next count cells 1 c.in_ok-next_plane.field-0) c.as_slice.ensures.all c.in_ok-next_plane.ensures)
    (λ leaves. not_IsOutOfReach p inside (leaves_at_once next p leaves))
