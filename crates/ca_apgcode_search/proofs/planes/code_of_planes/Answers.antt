use Rattle.std.proofs.Common.{◌≡◌, ℕ, length, IfOk, Vec, Global, sym, subst, arith}
use Rattle.std.specs.Prelude.{option_map}
use Rattle.ca_plane.specs.Prelude.{after, IsAfter}
use Rattle.ca_apgcode.specs.Prelude.{IsLeastOfPhases, code_text}
use Rattle.ca_apgcode.specs.declared.object.ObjectKind.TheVariants as kind
use Rattle.ca_answers.specs.declared.identity.Identity.TheVariants.{Claim}
use Rattle.ca_answers.specs.Prelude.{IsCodeOf}
use Rattle.ca_apgcode_search.specs.ObjectPlanes.{IsObjectOf}
use Rattle.ca_apgcode_search.proofs.PlaneCodes.{coded, coded_still, shown_here}
use Rattle.ca_apgcode_search.proofs.planes.code_of_planes.Goals as goal

pub returns-in-Still : goal.returns-in-Still
returns-in-Still c = λ next cells shows.
    let text = option_map (λ (text : Vec ℕ Global). text.items) c.in_ok-least.least in
    let one : length c.args.planes.now ≡ 1 = subst (λ k. IsObjectOf k (length c.args.planes.now)) c.in-Still.is c.requires in
    let least = subst (λ n. IsLeastOfPhases (after next cells) n text) one (c.in_ok-least.ensures (after next cells) shows) in
    let here : IsAfter next cells 0 c.index-planes-0.result = λ x y. sym (shown_here c.args.planes.now (after next cells) 0 c.index-planes-0.result (omega (arith, one)) c.index-planes-0.is shows x y) in
    subst (λ k. IfOk c.object_code.result (λ code. IsCodeOf next cells (Claim k) code.items)) (sym c.in-Still.is)
    (coded_still c.object_code.result next cells c.index-planes-0.result c.len-cells.result text here c.len-cells.ensures.population least c.object_code.ensures)

pub returns-in-Oscillator : goal.returns-in-Oscillator
returns-in-Oscillator c = λ next cells shows.
    let result = c.object_code-in-Oscillator.result in
    let text = option_map (λ (text : Vec ℕ Global). text.items) c.in_ok-least.least in
    let period = c.in-Oscillator.period in
    let is = subst (λ k. IsObjectOf k (length c.args.planes.now)) c.in-Oscillator.is c.requires in
    let least = subst (λ n. IsLeastOfPhases (after next cells) n text) is.1 (c.in_ok-least.ensures (after next cells) shows) in
    subst (λ k. IfOk result (λ code. IsCodeOf next cells (Claim k) code.items)) (sym c.in-Oscillator.is)
    (coded result kind.Oscillator period (after next cells) period text least (subst (λ n. IfOk result (λ code. code.items ≡ code_text kind.Oscillator n text)) c.from.ensures c.object_code-in-Oscillator.ensures))

pub returns-in-Spaceship : goal.returns-in-Spaceship
returns-in-Spaceship c = λ next cells shows.
    let result = c.object_code-in-Spaceship.result in
    let text = option_map (λ (text : Vec ℕ Global). text.items) c.in_ok-least.least in
    let period = c.in-Spaceship.period in
    let is = subst (λ k. IsObjectOf k (length c.args.planes.now)) c.in-Spaceship.is c.requires in
    let least = subst (λ n. IsLeastOfPhases (after next cells) n text) is.1 (c.in_ok-least.ensures (after next cells) shows) in
    subst (λ k. IfOk result (λ code. IsCodeOf next cells (Claim k) code.items)) (sym c.in-Spaceship.is)
    (coded result kind.Spaceship period (after next cells) period text least (subst (λ n. IfOk result (λ code. code.items ≡ code_text kind.Spaceship n text)) c.from-in-Spaceship.ensures c.object_code-in-Spaceship.ensures))
