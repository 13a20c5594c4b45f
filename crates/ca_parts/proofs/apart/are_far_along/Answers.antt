use Rattle.std.proofs.Common.{refl, arith}
use Rattle.std.proofs.lemmas.Int.{ints}
use Rattle.ca_parts.proofs.apart.are_far_along.Goals as goal

pub returns-then-is_well_above : goal.returns-then-is_well_above
returns-then-is_well_above c = λ far.
    let above = c.if-is_well_above.ensures refl in
    λ a b low high other_low other_high near near_too. omega (arith, ints, above)

pub returns-else-is_well_above : goal.returns-else-is_well_above
returns-else-is_well_above c = λ far.
    let above = c.is_well_above-else-is_well_above.ensures far in
    λ a b low high other_low other_high near near_too. omega (arith, ints, above)
