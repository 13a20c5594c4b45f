use Rattle.ca_bricks.proofs.Overlaps.{four_between}
use Rattle.ca_bricks.proofs.word_square.WordSquare.middle_of_row.Goals as goal

pub returns : goal.returns
returns c = λ p a b west east. four_between 3 west east
