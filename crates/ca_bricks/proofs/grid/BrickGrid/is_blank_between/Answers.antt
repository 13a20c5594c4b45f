use Rattle.std.proofs.Common.{◌+◌, ◌/◌, ◌%◌, ◌*◌, ◌≤◌, min, arith}
use Rattle.ca_bricks.proofs.Grids.{dead_rows, dead_between}
use Rattle.ca_bricks.proofs.grid.BrickGrid.is_blank_between.Goals as goal

pub rows-preserved : goal.rows-preserved
rows-preserved c = λ m p shows.
    let grid = c.args.self.now in
    dead_rows p grid.x grid.y (64 * (c.args.i.0 / 8)) (64 * c.min.result) (16 * (c.args.j.0 / 2)) c.rows.row (c.rows.invariant m p shows) (c.is_row_blank.ensures c.if-not-is_row_blank.false m p shows)

pub returns : goal.returns
returns c = λ _ m p shows.
    let east : min (c.args.i.1 / 8 + min 1 (c.args.i.1 % 8)) c.args.self.now.across ≤ c.min.result = omega (arith, c.div_ceil.ensures, c.min.ensures) in
    let south : min (c.args.j.1 / 2 + min 1 (c.args.j.1 % 2)) c.args.self.now.down ≤ c.rows.row = omega (arith, c.div_ceil-2.ensures, c.min-row-end.ensures, c.rows-test.false) in
    dead_between c.args.self.now m p shows c.args.i.0 c.args.i.1 c.args.j.0 c.args.j.1 c.min.result c.rows.row (c.rows.invariant m p shows) east south
