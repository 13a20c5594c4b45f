use Rattle.std.proofs.Common.{arith}
use Rattle.ca_plane.proofs.Numbers.{value_more}
use Rattle.ca_plane.proofs.bytes.number.Goals as goal

pub digits-preserved : goal.digits-preserved
digits-preserved c = omega (arith, value_more c.args.digits.now c.digits.digit-index (omega arith))
