use Rattle.ca_bricks.proofs.Overlaps.{four_halfway}
use Rattle.ca_bricks.proofs.word_square.WordSquare.middle_of_column.Goals as goal

pub returns : goal.returns
returns c = λ p a b north south. four_halfway 3 north south
