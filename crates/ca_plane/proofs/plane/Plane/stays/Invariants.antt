use Rattle.ca_plane.specs.inner.Moves.{StaysInPlane}
use Rattle.ca_plane.proofs.plane.Plane.stays.Given as goal

-- the cells so far stay
abbrev pub invariant-cells : goal.invariant-cells
invariant-cells l = StaysInPlane l.yielded l.fn.dx l.fn.dy
