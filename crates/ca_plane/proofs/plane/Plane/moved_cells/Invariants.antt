use Rattle.std.proofs.Common.{◌≡◌}
use Rattle.ca_plane.specs.Prelude.{shifted}
use Rattle.ca_plane.proofs.plane.Plane.moved_cells.Given as goal

-- the cells so far, moved
abbrev pub invariant-cells : goal.invariant-cells
invariant-cells l = l.moved.items ≡ shifted l.yielded l.fn.dx l.fn.dy
