use Rattle.std.proofs.Common.{arith}
use Rattle.std.proofs.lemmas.Int.{ints, clamps, to_z-of_z}
use Rattle.ca_parts.proofs.phases.joined.Goals as goal

pub returns-clause-near : goal.returns-clause-near
returns-clause-near c = record {
  low = (omega (arith, ints, clamps), omega (arith, ints, clamps), omega (arith, ints, clamps), omega (arith, ints, clamps));
  high = (omega (arith, ints, clamps), omega (arith, ints, clamps), omega (arith, ints, clamps), omega (arith, ints, clamps));
}

pub returns-clause-one : goal.returns-clause-one
returns-clause-one c = λ x y within. (omega (arith, ints, clamps), omega (arith, ints, clamps), omega (arith, ints, clamps), omega (arith, ints, clamps))

pub returns-clause-other : goal.returns-clause-other
returns-clause-other c = λ x y within. (omega (arith, ints, clamps), omega (arith, ints, clamps), omega (arith, ints, clamps), omega (arith, ints, clamps))

pub returns-clause-x0 : goal.returns-clause-x0
returns-clause-x0 c = first_of (omega (arith, ints, clamps), search (arith, ints, clamps, c.min.ensures.value), grind (arith, ints, to_z-of_z, c.min.ensures.value))

pub returns-clause-y0 : goal.returns-clause-y0
returns-clause-y0 c = first_of (omega (arith, ints, clamps), search (arith, ints, clamps, c.min-2.ensures.value), grind (arith, ints, to_z-of_z, c.min-2.ensures.value))

pub returns-clause-x1 : goal.returns-clause-x1
returns-clause-x1 c = first_of (omega (arith, ints, clamps), search (arith, ints, clamps, c.max.ensures.value), grind (arith, ints, to_z-of_z, c.max.ensures.value))

pub returns-clause-y1 : goal.returns-clause-y1
returns-clause-y1 c = first_of (omega (arith, ints, clamps), search (arith, ints, clamps, c.max-2.ensures.value), grind (arith, ints, to_z-of_z, c.max-2.ensures.value))
