use Rattle.ca_parts.proofs.SweptPlanes.{sides-none}
use Rattle.ca_parts.proofs.phases.with_plane.Goals as goal

pub returns-in-Some-clause-new : goal.returns-in-Some-clause-new
returns-in-Some-clause-new c = λ x y live. c.with_box.ensures.new x y (c.in-Some.ensures.all x y live)

pub returns-in-Some-clause-least : goal.returns-in-Some-clause-least
returns-in-Some-clause-least c = c.with_box.ensures.least c.args.plane.now c.in-Some.ensures.least

pub returns-in-None-clause-least : goal.returns-in-None-clause-least
returns-in-None-clause-least c = sides-none c.args.plane.now c.args.sweep
