use Rattle.std.proofs.lemmas.List.Elements.{All-push}
use Rattle.ca_plane.specs.Prelude.{IsInPlane}
use Rattle.ca_library_tests.proofs.tests.planes.gathered.Goals as goal

pub cells-preserved : goal.cells-preserved
cells-preserved c = rw c.in_ok-push.ensures.items (All-push (λ e. IsInPlane e.0) c.cells.listed.items _ c.cells.invariant c.within.ensures)
