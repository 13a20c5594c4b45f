use Rattle.ca_apgcode.proofs.MaskBits.{east_bits}
use Rattle.ca_apgcode.proofs.masks.east_bits.Goals as goal

pub returns : goal.returns
returns c = λ x within. east_bits c.args.mask c.args.width x c.requires within
