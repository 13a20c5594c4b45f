use Rattle.std.specs.List.{All}
use Rattle.ca_plane.specs.Prelude.{IsInPlane}
use Rattle.ca_library_tests.proofs.tests.planes.gathered.Given as goal

-- the cells so far are in the square of a plane
abbrev pub invariant-cells : goal.invariant-cells
invariant-cells l = All (λ e. IsInPlane e.0) l.listed.items
