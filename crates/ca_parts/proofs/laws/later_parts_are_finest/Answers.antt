use Rattle.ca_parts.proofs.SharedCells.{later_finest}
use Rattle.ca_parts.proofs.laws.later_parts_are_finest.Goals as goal

pub returns : goal.returns
returns c = later_finest
