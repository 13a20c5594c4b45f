use Rattle.ca_parts.proofs.SharedCells.{division_was}
use Rattle.ca_parts.proofs.laws.earlier_parts_are_a_division.Goals as goal

pub returns : goal.returns
returns c = division_was
