use Rattle.ca_bricks.proofs.BrickBits.{rest_bit}
use Rattle.ca_bricks.proofs.word.and_not.Goals as goal

pub returns : goal.returns
returns c = rest_bit c.args.a c.args.b
