use Rattle.std.proofs.Common.{ap}
use Rattle.ca_quad.proofs.Cells.{cells_stay, of_stays}
use Rattle.ca_quad.proofs.laws.old_squares_stay.Goals as goal

pub returns : goal.returns
returns c = λ old new sound grows id level h. record {
  is_square = of_stays old new sound grows id level h;
  has_cells = λ x y. ap (λ f. f x y) (cells_stay old new sound grows level id h);
}
