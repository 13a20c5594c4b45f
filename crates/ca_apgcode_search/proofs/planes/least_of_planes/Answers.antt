use Rattle.std.proofs.Common.{◌≡◌, ℕ, length, Vec, Global, subst, arith}
use Rattle.std.specs.Prelude.{option_map}
use Rattle.ca_apgcode.specs.Prelude.{IsLeastOfPhases}
use Rattle.ca_apgcode_search.proofs.PlaneCodes.{shown_here}
use Rattle.ca_apgcode_search.proofs.planes.least_of_planes.Goals as goal

pub planes-preserved : goal.planes-preserved
planes-preserved c = λ phases shows.
    let n = c.planes.plane-index in
    c.in_ok-least.ensures phases n (shown_here c.args.planes.now phases n c.plane-item.result (omega (arith, c.planes-test.true)) c.plane-item.is shows) (c.planes.invariant phases shows)

pub returns : goal.returns
returns c = λ phases shows.
    let all : c.planes.plane-index ≡ length c.args.planes.now = omega (arith, c.planes-test.false, c.planes.auto.plane-index-end) in
    subst (λ k. IsLeastOfPhases phases k (option_map (λ (text : Vec ℕ Global). text.items) c.planes.least)) all (c.planes.invariant phases shows)
