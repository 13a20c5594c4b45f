use Rattle.std.proofs.Common.{sym, subst}
use Rattle.ca_apgcode.specs.Prelude.{cell}
use Rattle.ca_apgcode.specs.inner.Lengths.{IsStripLength}
use Rattle.ca_apgcode.proofs.MirroredLengths.{IsStripLength-mirrored}
use Rattle.ca_apgcode.proofs.masks.mirrored_length.Goals as goal

pub returns-clause-length : goal.returns-clause-length
returns-clause-length c = λ grid mirrored y is width masks.
    subst (IsStripLength (cell mirrored) y) (sym c.text_length.ensures.length)
    (IsStripLength-mirrored grid mirrored y c.args.mask c.args.width c.east_bits-one.result c.east_bits-two.result c.east_bits-three.result c.east_bits.result is width c.requires.low c.requires.most
    c.east_bits-one.ensures c.east_bits-two.ensures c.east_bits-three.ensures c.east_bits.ensures masks)
