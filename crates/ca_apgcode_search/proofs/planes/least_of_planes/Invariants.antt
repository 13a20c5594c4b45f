use Rattle.std.proofs.Common.{ℕ, Vec, Global}
use Rattle.std.specs.Prelude.{ℤ, option_map}
use Rattle.ca_apgcode.specs.Prelude.{IsLeastOfPhases}
use Rattle.ca_apgcode_search.specs.inner.Shown.{ShowPhases}
use Rattle.ca_apgcode_search.proofs.planes.least_of_planes.Given as goal

-- the least text of the planes so far
abbrev pub invariant-planes : goal.invariant-planes
invariant-planes l = (phases : ℕ → ℤ → ℤ → ℕ) → ShowPhases l.fn.planes phases → IsLeastOfPhases phases l.plane-index (option_map (λ (text : Vec ℕ Global). text.items) l.least)
