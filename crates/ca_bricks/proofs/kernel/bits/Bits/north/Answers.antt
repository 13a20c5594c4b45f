use Rattle.ca_bricks.proofs.BitRows.{bits_north}
use Rattle.ca_bricks.proofs.kernel.bits.Bits.north.Goals as goal

pub returns : goal.returns
returns c = bits_north c.args.self.rows c.args.self.sixteen
