use Rattle.std.proofs.Common.{arith}
use Rattle.ca_bricks.proofs.BrickWaking.{changed_more}
use Rattle.ca_bricks.proofs.step.changed_bits.Goals as goal

pub rows-preserved : goal.rows-preserved
rows-preserved c = changed_more c.args.new.now c.args.old.now c.rows.all c.rows.y c.rows.invariant

pub returns : goal.returns
returns c = λ x y h e. c.rows.invariant x y (omega (arith, c.rows-test.false, h)) e
