use Rattle.ca_bricks.proofs.BrickBits.{pair_of_two}
use Rattle.ca_bricks.proofs.word.add2.Goals as goal

pub returns : goal.returns
returns c = pair_of_two c.args.a c.args.b
