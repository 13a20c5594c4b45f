use Rattle.std.proofs.Common.{◌≡◌, subst, arith}
use Rattle.std.proofs.lemmas.Bool.Decides.{nat_tests}
use Rattle.ca_bricks.proofs.BrickWords.{HasRowsOf, brick_made, rows_more}
use Rattle.ca_bricks.proofs.cut.brick_of.Goals as goal

pub rows-preserved : goal.rows-preserved
rows-preserved c = rows_more c.rows.rows c.args.north.now c.args.south.now c.rows.y c.row_at.result c.row_at-in-rows.result c.rows.invariant (omega arith) c.row_at.ensures c.row_at-in-rows.ensures

pub returns : goal.returns
returns c =
    let all : c.rows.y ≡ 8 = grind (arith, nat_tests) in
    brick_made c.rows.rows c.args.north.now c.args.south.now (subst (HasRowsOf c.rows.rows c.args.north.now c.args.south.now) all c.rows.invariant)
