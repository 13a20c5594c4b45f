use Rattle.ca_parts.proofs.FinestDivisions.{one_finest}
use Rattle.ca_parts.proofs.laws.one_finest_division.Goals as goal

pub returns : goal.returns
returns c = one_finest
