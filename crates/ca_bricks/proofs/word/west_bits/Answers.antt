use Rattle.ca_bricks.proofs.BrickBits.{west_bit}
use Rattle.ca_bricks.proofs.word.west_bits.Goals as goal

pub returns : goal.returns
returns c = λ east x h. west_bit c.args.west c.args.row east x c.ranges.west.fits h
