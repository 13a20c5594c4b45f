use Rattle.std.proofs.Common.{sym, subst}
use Rattle.ca_apgcode.specs.Prelude.{cell}
use Rattle.ca_apgcode.specs.inner.Lengths.{IsStripLength}
use Rattle.ca_apgcode.proofs.MaskLengths.{IsStripLength-mask}
use Rattle.ca_apgcode.proofs.masks.mask_length.Goals as goal

pub returns-clause-length : goal.returns-clause-length
returns-clause-length c = λ grid y is.
    subst (IsStripLength (cell grid) y) (sym c.text_length.ensures.length)
    (IsStripLength-mask grid y c.args.mask c.west_bits-one.result c.west_bits-two.result c.west_bits-three.result c.west_bits.result is c.requires
    c.west_bits-one.ensures c.west_bits-two.ensures c.west_bits-three.ensures c.west_bits.ensures)
