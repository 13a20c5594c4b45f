use Rattle.std.proofs.Common.{IfOk, IfSome, pos, sym, subst, ap, ◌∙◌}
use Rattle.ca_quad.specs.Prelude.{cell}
use Rattle.ca_apgcode.specs.declared.object.ObjectKind.TheVariants as kind
use Rattle.ca_answers.specs.declared.identity.Identity.TheVariants.{Claim}
use Rattle.ca_answers.specs.Prelude.{IsIdentity, IsCodeOf}
use Rattle.ca_apgcode_search.proofs.LargeObjects.{back_by, shown_code}
use Rattle.ca_apgcode_search.proofs.quick.quick_code.Goals as goal

pub returns-in-Claim-Oscillator : goal.returns-in-Claim-Oscillator
returns-in-Claim-Oscillator g c = λ next cells limit quiet may is shows.
    let p = cell c.args.leaper.now.nodes c.args.tree.now in
    let period = c.in-Claim-Oscillator.period in
    let claim = subst (IsIdentity next cells limit) (c.in-Claim-Oscillator.is ∙ ap Claim (rw c.in-Claim-Oscillator.is at c.in-Claim-Oscillator.field-0-is)) is in
    subst (λ i. IfOk c.code_of_phases.result (λ found. IfSome found (λ code. IsCodeOf next cells i code.items))) (sym (c.in-Claim-Oscillator.is ∙ ap Claim (rw c.in-Claim-Oscillator.is at c.in-Claim-Oscillator.field-0-is)))
    (shown_code c.code_of_phases.result kind.Oscillator next cells p shows period (c.code_of_phases.ensures next (pos 0) (pos 0) quiet may (back_by next cells p shows period (pos 0) (pos 0) claim.1.holds.stands)))

pub returns-in-Claim-Spaceship : goal.returns-in-Claim-Spaceship
returns-in-Claim-Spaceship g c = λ next cells limit quiet may is shows.
    let p = cell c.args.leaper.now.nodes c.args.tree.now in
    let period = c.in-Claim-Spaceship.period in
    let dx = c.in-Claim-Spaceship.field-0-1 in
    let dy = c.in-Claim-Spaceship.field-0-2 in
    let claim = subst (IsIdentity next cells limit) (c.in-Claim-Spaceship.is ∙ ap Claim (rw c.in-Claim-Spaceship.is at c.in-Claim-Spaceship.field-0-is)) is in
    subst (λ i. IfOk c.code_of_phases-in-Claim-Spaceship.result (λ found. IfSome found (λ code. IsCodeOf next cells i code.items))) (sym (c.in-Claim-Spaceship.is ∙ ap Claim (rw c.in-Claim-Spaceship.is at c.in-Claim-Spaceship.field-0-is)))
    (shown_code c.code_of_phases-in-Claim-Spaceship.result kind.Spaceship next cells p shows period (c.code_of_phases-in-Claim-Spaceship.ensures next dx dy quiet may (back_by next cells p shows period dx dy claim.1.holds.stands)))
