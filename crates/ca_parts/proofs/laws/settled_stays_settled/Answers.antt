use Rattle.ca_parts.proofs.LaterDivisions.{IsDivision-later, IsSettled-later}
use Rattle.ca_parts.proofs.laws.settled_stays_settled.Goals as goal

pub returns-clause-settled : goal.returns-clause-settled
returns-clause-settled c = IsSettled-later

pub returns-clause-parts : goal.returns-clause-parts
returns-clause-parts c = IsDivision-later
