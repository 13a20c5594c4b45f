use Rattle.ca_apgcode.proofs.MaskBits.{five_before}
use Rattle.ca_apgcode.proofs.masks.five_bits_before.Goals as goal

pub returns : goal.returns
returns c = λ y. five_before c.args.end y c.requires
