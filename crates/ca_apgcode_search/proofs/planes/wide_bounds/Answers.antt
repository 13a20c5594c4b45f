use Rattle.ca_apgcode_search.proofs.PlaneCodes.{wide_least}
use Rattle.ca_apgcode_search.proofs.planes.wide_bounds.Goals as goal

pub returns-in-Some-clause-wide : goal.returns-in-Some-clause-wide
returns-in-Some-clause-wide c =
    wide_least c.args.plane.now c.in-Some.bounds c.widened.result c.as_slice.ensures.sparse c.in-Some.ensures.some c.widened.ensures.x0 c.widened.ensures.y0 c.widened.ensures.x1 c.widened.ensures.y1
