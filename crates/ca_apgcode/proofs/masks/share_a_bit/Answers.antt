use Rattle.std.specs.Int.Bits.{and_lt}
use Rattle.ca_apgcode.proofs.MaskBits.{shared_bit}
use Rattle.ca_apgcode.proofs.masks.share_a_bit.Goals as goal

pub returns : goal.returns
returns c = shared_bit c.args.one c.args.other (and_lt 64 c.args.one c.args.other c.ranges.one.fits c.ranges.other.fits)
