use Rattle.std.proofs.Common.{arith}
use Rattle.std.proofs.lemmas.Int.{ints}
use Rattle.ca_rle.proofs.DrawnCells.{run_drawn}
use Rattle.ca_rle.proofs.Runs.{run_more}
use Rattle.ca_rle.proofs.drawing.PlaneCanvas.draw_run.Goals as goal

pub cells-preserved : goal.cells-preserved
cells-preserved c = record {
  shown = run_more c.args.state c.args.at _ c.cells.step c.args.self.now c.cells.self _ c.cells.invariant.shown c.in_ok-set.ensures.ok (omega (arith, ints)) (omega (arith, ints));
  sparse = λ _. c.in_ok-set.ensures.sparse;
}

pub returns-clause-cells : goal.returns-clause-cells
returns-clause-cells c = run_drawn c.args.state c.args.at c.args.count c.cells.step c.args.self.now _ c.cells.invariant.shown (omega (arith, c.cells-test.false))
