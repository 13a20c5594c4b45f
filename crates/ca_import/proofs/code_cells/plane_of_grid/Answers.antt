use Rattle.std.proofs.Common.{arith}
use Rattle.ca_import.proofs.DrawnColumns.{draws_grid}
use Rattle.ca_import.proofs.code_cells.plane_of_grid.Goals as goal

pub returns : goal.returns
returns c =
    draws_grid c.args.grid.now c.width-x-end.ensures.grid c.columns.cells c.columns.x (omega (arith, c.width-x-end.ensures.width, c.columns-test.false)) c.columns.invariant
