use Rattle.ca_apgcode.proofs.MaskBits.{west_bits}
use Rattle.ca_apgcode.proofs.masks.west_bits.Goals as goal

pub returns : goal.returns
returns c = west_bits c.args.mask
