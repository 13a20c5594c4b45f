use Rattle.std.proofs.Common.{◌∙◌, sym}
use Rattle.std.proofs.lemmas.Simd.{length-zip2}
use Rattle.ca_bricks.proofs.BitRows.{bits_and}
use Rattle.ca_bricks.proofs.kernel.bits.Bits.and.Goals as goal

pub invariant_of-result : goal.invariant_of-result
invariant_of-result c = record { sixteen = length-zip2 _ c.args.self.rows c.args.other.rows (c.args.self.sixteen ∙ sym c.args.other.sixteen) ∙ c.args.self.sixteen }

pub returns : goal.returns
returns c = bits_and c.args.self.rows c.args.other.rows c.args.self.sixteen c.args.other.sixteen
