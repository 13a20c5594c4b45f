use Rattle.ca_bricks.proofs.BitRows.{bits_all}
use Rattle.ca_bricks.proofs.kernel.bits.Bits.all.Goals as goal
use Rattle.ca_bricks.proofs.kernel.bits.Bits.all.Goals.{then-set, else-set}

pub returns : goal.returns
returns c = bits_all c.args.set c.if-set.result (elim c.if-set.branch [ then-set w ↦ rw w.if-set.true w.result-is | else-set w ↦ rw w.if-set.false w.result-is ])
