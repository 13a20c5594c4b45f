use Rattle.ca_quad.proofs.FilledSquares.{holds_all}
use Rattle.ca_quad.proofs.store.from_plane.level_for.Goals as goal

pub returns-clause-holds : goal.returns-clause-holds
returns-clause-holds c = holds_all c.args.plane.now c.in-Some.bounds c.level_from.result c.in-Some.ensures.some c.level_from.ensures.holds
