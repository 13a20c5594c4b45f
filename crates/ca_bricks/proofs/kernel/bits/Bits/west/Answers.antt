use Rattle.std.proofs.Common.{refl, ◌∙◌}
use Rattle.std.specs.Prelude.{replicate}
use Rattle.std.proofs.lemmas.Simd.{length-zip2}
use Rattle.ca_bricks.proofs.BitRows.{bits_west}
use Rattle.ca_bricks.proofs.kernel.bits.Bits.west.Goals as goal

pub invariant_of-result : goal.invariant_of-result
invariant_of-result c = record { sixteen = length-zip2 _ c.args.self.rows (replicate 16 1) c.args.self.sixteen ∙ c.args.self.sixteen }

pub returns : goal.returns
returns c = bits_west _ (λ a. refl) 16 c.args.self.rows c.args.self.sixteen
