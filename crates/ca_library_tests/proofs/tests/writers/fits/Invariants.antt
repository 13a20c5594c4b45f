use Rattle.std.proofs.Common.{◌<◌}
use Rattle.std.specs.List.{All}
use Rattle.ca_plane.specs.Prelude.{IsInRange}
use Rattle.ca_library_tests.proofs.tests.writers.fits.Given as goal

-- the cells so far may be written
abbrev pub invariant-cells : goal.invariant-cells
invariant-cells l = record {
  range : All (λ e. IsInRange e.0) l.yielded;
  states : All (λ e. e.1 < 2) l.yielded;
}
