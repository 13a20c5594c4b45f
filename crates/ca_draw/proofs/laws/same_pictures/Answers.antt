use Rattle.ca_draw.proofs.SameCells.{same_drawing}
use Rattle.ca_draw.proofs.laws.same_pictures.Goals as goal

pub returns : goal.returns
returns c = λ style one other window same. same_drawing style one other window same
