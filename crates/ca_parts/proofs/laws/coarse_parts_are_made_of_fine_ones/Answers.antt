use Rattle.ca_parts.proofs.FinestDivisions.{made_of_fine}
use Rattle.ca_parts.proofs.laws.coarse_parts_are_made_of_fine_ones.Goals as goal

pub returns : goal.returns
returns c = made_of_fine
