use Rattle.std.proofs.Common.{arith}
use Rattle.ca_rle.proofs.DrawnCells.{run_over}
use Rattle.ca_rle.proofs.drawing.BitPlaneCanvas.draw_run.Goals as goal

pub returns-clause-cells : goal.returns-clause-cells
returns-clause-cells c = λ x y. run_over c.args.at c.args.count c.args.state _ _ (omega (arith, c.requires.least, c.requires.most)) c.in_ok-add_run.ensures.ok x y
