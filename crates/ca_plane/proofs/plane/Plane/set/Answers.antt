use Rattle.ca_plane.proofs.Places.{cell-at_gap}
use Rattle.ca_plane.proofs.plane.Plane.set.Goals as goal

pub returns-in-Err-clause-over : goal.returns-in-Err-clause-over
returns-in-Err-clause-over c = λ some. absurd (some (cell-at_gap _ _ _ c.in-Err.ensures.absent))
