use Rattle.ca_parts.proofs.Ends.{ends_lie, ends_of_settled, ends_are_finest}
use Rattle.ca_parts.proofs.laws.ends_tell_if_settled.Goals as goal

pub returns-clause-within : goal.returns-clause-within
returns-clause-within c = ends_lie

pub returns-clause-settled : goal.returns-clause-settled
returns-clause-settled c = ends_of_settled

pub returns-clause-finest : goal.returns-clause-finest
returns-clause-finest c = ends_are_finest
