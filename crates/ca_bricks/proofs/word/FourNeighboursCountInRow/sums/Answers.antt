use Rattle.std.proofs.Common.{arith}
use Rattle.std.proofs.lemmas.Nat.Bits.{bit_at-zero}
use Rattle.ca_bricks.proofs.BrickBits.{middle_bit}
use Rattle.ca_bricks.proofs.word.FourNeighboursCountInRow.sums.Goals as goal

pub returns-clause-above : goal.returns-clause-above
returns-clause-above c = λ x h. omega (arith, middle_bit c.args.west c.args.row c.args.east x h, bit_at-zero x)

pub returns-clause-beside : goal.returns-clause-beside
returns-clause-beside c = λ x h. omega (arith, c.add2.ensures x, c.west_bits.ensures c.args.east x h, c.east_bits.ensures c.args.west x h)

pub returns-clause-below : goal.returns-clause-below
returns-clause-below c = λ x h. omega (arith, middle_bit c.args.west c.args.row c.args.east x h, bit_at-zero x)
