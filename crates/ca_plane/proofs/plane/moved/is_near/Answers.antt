use Rattle.std.proofs.Common.{arith}
use Rattle.std.proofs.lemmas.Int.{ints}
use Rattle.ca_plane.proofs.plane.moved.is_near.Goals as goal

pub returns-then-moved : goal.returns-then-moved
returns-then-moved c = (λ h. (grind (arith, ints), grind (arith, ints)), λ h. grind (arith, ints))
