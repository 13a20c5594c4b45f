use Rattle.std.proofs.Common.{Option, subst}
use Rattle.ca_plane.specs.declared.point.Bounds.{Bounds}
use Rattle.ca_parts.specs.inner.Courses.{IsInSweep}
use Rattle.ca_parts.proofs.SweptPlanes.{sides-first, sides-joined}
use Rattle.ca_parts.proofs.phases.with_box.Goals as goal

pub returns-in-Some-clause-old : goal.returns-in-Some-clause-old
returns-in-Some-clause-old c = λ x y within. c.joined.ensures.one x y (subst (λ (s : Option Bounds). IsInSweep s x y) c.in-Some.is within)

pub returns-in-Some-clause-least : goal.returns-in-Some-clause-least
returns-in-Some-clause-least c = λ p least.
    sides-joined p c.args.sweep c.in-Some.one c.args.bounds c.joined.result c.in-Some.is least c.joined.ensures.x0 c.joined.ensures.y0 c.joined.ensures.x1 c.joined.ensures.y1

pub returns-in-None-clause-least : goal.returns-in-None-clause-least
returns-in-None-clause-least c = λ p least. sides-first p c.args.sweep c.args.bounds least
