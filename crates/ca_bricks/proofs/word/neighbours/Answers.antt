use Rattle.std.proofs.Common.{arith}
use Rattle.ca_bricks.proofs.word.neighbours.Goals as goal

pub returns : goal.returns
returns c = λ x. omega (arith, c.add3-ones.ensures x, c.add2-outer.ensures x, c.add2-inner.ensures x, c.add2-twos.ensures x, c.add3-fours.ensures x)
