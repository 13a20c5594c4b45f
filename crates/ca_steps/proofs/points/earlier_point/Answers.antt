use Rattle.ca_steps.proofs.Reading.{IsEarlier-min}
use Rattle.ca_steps.proofs.points.earlier_point.Goals as goal

pub returns : goal.returns
returns c = rw (c.in-Some.is, c.in-Some-b.is) (IsEarlier-min c.in-Some.p c.in-Some-b.q c.min.result c.min.ensures)
