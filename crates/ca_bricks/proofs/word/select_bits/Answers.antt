use Rattle.ca_bricks.proofs.BrickBits.{chosen_bit}
use Rattle.ca_bricks.proofs.word.select_bits.Goals as goal

pub returns : goal.returns
returns c = chosen_bit c.args.which c.args.there c.args.elsewhere
