use Rattle.ca_bricks.proofs.BitRows.{bits_south}
use Rattle.ca_bricks.proofs.kernel.bits.Bits.south.Goals as goal

pub returns : goal.returns
returns c = bits_south c.args.self.rows c.args.self.sixteen
