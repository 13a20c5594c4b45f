use Rattle.ca_plane.proofs.Boxes.{IsBoxBefore}
use Rattle.ca_plane.proofs.plane.Plane.bounds.Given as goal

-- the smallest box round the cells so far
abbrev pub invariant-cells : goal.invariant-cells
invariant-cells l = IsBoxBefore l.self l.point-iterator l.bounds
