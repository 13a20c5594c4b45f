use Rattle.ca_quad.proofs.Measures.{boxes_stay}
use Rattle.ca_quad.proofs.laws.square_boxes_stay.Goals as goal

pub returns : goal.returns
returns c = boxes_stay
