use Rattle.ca_plane.proofs.Pictures.{IsSparse-none}
use Rattle.ca_plane.proofs.plane.Plane.new.Goals as goal

pub invariant_of-result : goal.invariant_of-result
invariant_of-result c = rw c.new.ensures.items IsSparse-none
