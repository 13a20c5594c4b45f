use Rattle.std.proofs.Common.{arith}
use Rattle.ca_bricks.proofs.BrickBits.{middle_bit}
use Rattle.ca_bricks.proofs.word.SixNeighboursCountInRow.sums.Goals as goal

pub returns-clause-above : goal.returns-clause-above
returns-clause-above c = λ x h. omega (arith, c.add2.ensures x, c.west_bits-west.ensures c.args.east x h, middle_bit c.args.west c.args.row c.args.east x h)

pub returns-clause-beside : goal.returns-clause-beside
returns-clause-beside c = λ x h. omega (arith, c.add2-2.ensures x, c.west_bits-west.ensures c.args.east x h, c.east_bits-east.ensures c.args.west x h)

pub returns-clause-below : goal.returns-clause-below
returns-clause-below c = λ x h. omega (arith, c.add2-3.ensures x, middle_bit c.args.west c.args.row c.args.east x h, c.east_bits-east.ensures c.args.west x h)
