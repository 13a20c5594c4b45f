use Rattle.std.proofs.Common.{refl, arith}
use Rattle.ca_bricks.proofs.BrickWaking.{column_made}
use Rattle.ca_bricks.proofs.step.column.Goals as goal

pub returns : goal.returns
returns c = column_made c.args.across c.args.bricks.now c.args.t c.rows.column _ _ c.rows.invariant.size (λ j h. c.rows.invariant.made j (omega (arith, c.rows-test.false, h))) refl refl
