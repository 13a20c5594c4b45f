use Rattle.std.proofs.Common.{refl, sym, subst, ap, ◌∙◌}
use Rattle.ca_plane.specs.Plane as plane
use Rattle.ca_plane.specs.Prelude.{after, cells_after, HasPopulation}
use Rattle.ca_plane.proofs.After.{after_same}
use Rattle.ca_quad.specs.Prelude.{cell}
use Rattle.ca_apgcode.specs.Prelude.{IsObjectCode}
use Rattle.ca_apgcode.specs.declared.object.ObjectKind.TheVariants as kind
use Rattle.ca_apgcode.proofs.Copies.{code_of_same}
use Rattle.ca_evolution.specs.Prelude.{TakesSteps}
use Rattle.ca_evolution.proofs.Steps.{no_step}
use Rattle.ca_answers.specs.declared.identity.Identity.TheVariants.{Claim}
use Rattle.ca_answers.specs.Prelude.{IsCodeOf, steps_of}
use Rattle.ca_apgcode_search.proofs.Populations.{population_as}
use Rattle.ca_apgcode_search.proofs.code.code_of_tree.Goals as goal

pub returns-in_ok-code-in-Claim-Still-clause-code : goal.returns-in_ok-code-in-Claim-Still-clause-code
returns-in_ok-code-in-Claim-Still-clause-code g c = λ cells shows.
    let next = g.A.Automaton.next_of c.args.leaper.now.rule in
    let p = cell c.args.leaper.now.nodes c.args.pattern.now in
    let code = c.in_ok-code-in-Claim-Still.code.items in
    let count = c.in_ok-cells-in-Claim-Still.cells in
    subst (λ i. IsCodeOf next cells i code) (sym (c.in-Claim-Still.is ∙ ap Claim (rw c.in-Claim-Still.is at c.in-Claim-Still.field-0-is))) (
      count,
      population_as p (plane.cell cells) count (λ x y. sym (shows x y)) (subst (λ s. HasPopulation (cell s c.args.pattern.now) count) c.store-in-Claim-Still.ensures.nodes c.in_ok-cells-in-Claim-Still.ensures),
      code_of_same kind.StillLife count (cells_after next p) (after next cells) 1 code (λ n x y. after_same next p (plane.cell cells) n (λ u v. sym (shows u v)) x y) c.in_ok-code-in-Claim-Still.ensures.code,
    )

pub returns-in_ok-code-in-Claim-Oscillator-clause-code : goal.returns-in_ok-code-in-Claim-Oscillator-clause-code
returns-in_ok-code-in-Claim-Oscillator-clause-code g c = λ cells shows.
    let next = g.A.Automaton.next_of c.args.leaper.now.rule in
    let p = cell c.args.leaper.now.nodes c.args.pattern.now in
    let code = c.in_ok-code-in-Claim-Oscillator.code.items in
    let period = c.in-Claim-Oscillator.period in
    subst (λ i. IsCodeOf next cells i code) (sym (c.in-Claim-Oscillator.is ∙ ap Claim (rw c.in-Claim-Oscillator.is at c.in-Claim-Oscillator.field-0-is)))
    (code_of_same kind.Oscillator period (cells_after next p) (after next cells) period code (λ n x y. after_same next p (plane.cell cells) n (λ u v. sym (shows u v)) x y)
    (subst (λ number. IsObjectCode kind.Oscillator number (cells_after next p) period code) c.from.ensures c.in_ok-code-in-Claim-Oscillator.ensures.code))

pub returns-in_ok-code-in-Claim-Spaceship-clause-code : goal.returns-in_ok-code-in-Claim-Spaceship-clause-code
returns-in_ok-code-in-Claim-Spaceship-clause-code g c = λ cells shows.
    let next = g.A.Automaton.next_of c.args.leaper.now.rule in
    let p = cell c.args.leaper.now.nodes c.args.pattern.now in
    let code = c.in_ok-code-in-Claim-Spaceship.code.items in
    let period = c.in-Claim-Spaceship.period in
    subst (λ i. IsCodeOf next cells i code) (sym (c.in-Claim-Spaceship.is ∙ ap Claim (rw c.in-Claim-Spaceship.is at c.in-Claim-Spaceship.field-0-is)))
    (code_of_same kind.Spaceship period (cells_after next p) (after next cells) period code (λ n x y. after_same next p (plane.cell cells) n (λ u v. sym (shows u v)) x y)
    (subst (λ number. IsObjectCode kind.Spaceship number (cells_after next p) period code) c.from-in-Claim-Spaceship.ensures c.in_ok-code-in-Claim-Spaceship.ensures.code))

pub returns-in_err-code-in-Claim-Still-clause-takes : goal.returns-in_err-code-in-Claim-Still-clause-takes
returns-in_err-code-in-Claim-Still-clause-takes g c =
    let stages = cells_after (g.A.Automaton.next_of c.args.leaper.now.rule) (cell c.args.leaper.now.nodes c.args.pattern.now) in
    subst (λ i. TakesSteps c.args.leaper.now.spent.used c.code_of_phases.new.leaper.spent.used stages (steps_of i) (steps_of i)) (sym (c.in-Claim-Still.is ∙ ap Claim (rw c.in-Claim-Still.is at c.in-Claim-Still.field-0-is))) c.code_of_phases.ensures.takes

pub returns-in_ok-code-in-Claim-Still-clause-takes : goal.returns-in_ok-code-in-Claim-Still-clause-takes
returns-in_ok-code-in-Claim-Still-clause-takes g c =
    let stages = cells_after (g.A.Automaton.next_of c.args.leaper.now.rule) (cell c.args.leaper.now.nodes c.args.pattern.now) in
    subst (λ i. TakesSteps c.args.leaper.now.spent.used c.code_of_phases.new.leaper.spent.used stages (steps_of i) (steps_of i)) (sym (c.in-Claim-Still.is ∙ ap Claim (rw c.in-Claim-Still.is at c.in-Claim-Still.field-0-is))) c.in_ok-code-in-Claim-Still.ensures.takes

pub returns-in_err-code-in-Claim-Oscillator-clause-takes : goal.returns-in_err-code-in-Claim-Oscillator-clause-takes
returns-in_err-code-in-Claim-Oscillator-clause-takes g c =
    let stages = cells_after (g.A.Automaton.next_of c.args.leaper.now.rule) (cell c.args.leaper.now.nodes c.args.pattern.now) in
    subst (λ i. TakesSteps c.args.leaper.now.spent.used c.code_of_phases-in-Claim-Oscillator.new.leaper.spent.used stages (steps_of i) (steps_of i)) (sym (c.in-Claim-Oscillator.is ∙ ap Claim (rw c.in-Claim-Oscillator.is at c.in-Claim-Oscillator.field-0-is))) c.code_of_phases-in-Claim-Oscillator.ensures.takes

pub returns-in_ok-code-in-Claim-Oscillator-clause-takes : goal.returns-in_ok-code-in-Claim-Oscillator-clause-takes
returns-in_ok-code-in-Claim-Oscillator-clause-takes g c =
    let stages = cells_after (g.A.Automaton.next_of c.args.leaper.now.rule) (cell c.args.leaper.now.nodes c.args.pattern.now) in
    subst (λ i. TakesSteps c.args.leaper.now.spent.used c.code_of_phases-in-Claim-Oscillator.new.leaper.spent.used stages (steps_of i) (steps_of i)) (sym (c.in-Claim-Oscillator.is ∙ ap Claim (rw c.in-Claim-Oscillator.is at c.in-Claim-Oscillator.field-0-is))) c.in_ok-code-in-Claim-Oscillator.ensures.takes

pub returns-in_err-code-in-Claim-Spaceship-clause-takes : goal.returns-in_err-code-in-Claim-Spaceship-clause-takes
returns-in_err-code-in-Claim-Spaceship-clause-takes g c =
    let stages = cells_after (g.A.Automaton.next_of c.args.leaper.now.rule) (cell c.args.leaper.now.nodes c.args.pattern.now) in
    subst (λ i. TakesSteps c.args.leaper.now.spent.used c.code_of_phases-in-Claim-Spaceship.new.leaper.spent.used stages (steps_of i) (steps_of i)) (sym (c.in-Claim-Spaceship.is ∙ ap Claim (rw c.in-Claim-Spaceship.is at c.in-Claim-Spaceship.field-0-is))) c.code_of_phases-in-Claim-Spaceship.ensures.takes

pub returns-in_ok-code-in-Claim-Spaceship-clause-takes : goal.returns-in_ok-code-in-Claim-Spaceship-clause-takes
returns-in_ok-code-in-Claim-Spaceship-clause-takes g c =
    let stages = cells_after (g.A.Automaton.next_of c.args.leaper.now.rule) (cell c.args.leaper.now.nodes c.args.pattern.now) in
    subst (λ i. TakesSteps c.args.leaper.now.spent.used c.code_of_phases-in-Claim-Spaceship.new.leaper.spent.used stages (steps_of i) (steps_of i)) (sym (c.in-Claim-Spaceship.is ∙ ap Claim (rw c.in-Claim-Spaceship.is at c.in-Claim-Spaceship.field-0-is))) c.in_ok-code-in-Claim-Spaceship.ensures.takes

pub returns-in_err-cells-in-Claim-Still-clause-takes : goal.returns-in_err-cells-in-Claim-Still-clause-takes
returns-in_err-cells-in-Claim-Still-clause-takes g c =
    no_step _ _ (cells_after (g.A.Automaton.next_of c.args.leaper.now.rule) (cell c.args.leaper.now.nodes c.args.pattern.now)) (steps_of c.args.identity) (steps_of c.args.identity) refl

pub returns-in_default-clause-takes : goal.returns-in_default-clause-takes
returns-in_default-clause-takes g c =
    no_step _ _ (cells_after (g.A.Automaton.next_of c.args.leaper.now.rule) (cell c.args.leaper.now.nodes c.args.pattern.now)) (steps_of c.args.identity) (steps_of c.args.identity) refl
