use Rattle.ca_bricks.proofs.BrickBits.{pair_of_three}
use Rattle.ca_bricks.proofs.word.add3.Goals as goal

pub returns : goal.returns
returns c = pair_of_three c.args.a c.args.b c.args.c
