use Rattle.ca_parts.proofs.SweptPlanes.{near_bounds, live_bounds}
use Rattle.ca_parts.proofs.phases.near_bounds.Goals as goal

pub returns-clause-near : goal.returns-clause-near
returns-clause-near c = near_bounds c.args.plane.now c.bounds.result c.as_slice.ensures.sparse c.bounds.ensures.some

pub returns-clause-all : goal.returns-clause-all
returns-clause-all c = live_bounds c.args.plane.now c.bounds.result (λ none. c.bounds.ensures.none.0 none) c.bounds.ensures.some
