use Rattle.std.proofs.Common.{arith}
use Rattle.ca_bricks.proofs.Grids.{dead_more}
use Rattle.ca_bricks.proofs.grid.BrickGrid.is_row_blank.Goals as goal

pub bricks-preserved : goal.bricks-preserved
bricks-preserved c = λ m p shows.
    let grid = c.args.self.now in
    dead_more c.brick.result.now p grid.x grid.y c.args.columns.0 c.bricks.column c.args.row (c.bricks.invariant m p shows) (c.is_blank_brick.ensures c.if-not-is_blank_brick.false) (c.brick.ensures m p shows)

pub returns : goal.returns
returns c = λ _ m p shows x y west east north south. c.bricks.invariant m p shows x y west (omega (arith, east, c.bricks-test.false)) north south
