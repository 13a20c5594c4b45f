use Rattle.ca_parts.proofs.Outgrown.{IsSettledWithin-later, not_settled_before, settled_within_some}
use Rattle.ca_parts.proofs.growth.settled_within_stays_so.Goals as goal

pub returns-clause-stays : goal.returns-clause-stays
returns-clause-stays c = IsSettledWithin-later

pub returns-clause-before : goal.returns-clause-before
returns-clause-before c = not_settled_before

pub returns-clause-some : goal.returns-clause-some
returns-clause-some c = settled_within_some
