use Rattle.std.proofs.Common.{◌++◌}
use Rattle.ca_plane.specs.Prelude.{IsSame, IsSparse}
use Rattle.ca_rle.specs.Prelude.{run_of}
use Rattle.ca_rle.proofs.drawing.PlaneCanvas.draw_run.Given as goal

abbrev pub invariant-cells : goal.invariant-cells
invariant-cells l = record {
  shown : IsSame l.self (run_of l.state l.at l.step ++ l.initial.self);
  sparse : IsSparse l.initial.self → IsSparse l.self;
}
