use Rattle.ca_bricks.proofs.BrickBits.{east_bit}
use Rattle.ca_bricks.proofs.word.east_bits.Goals as goal

pub returns : goal.returns
returns c = λ west x h. east_bit c.args.row c.args.east x c.ranges.row.fits h
