use Rattle.ca_parts.proofs.EarlierDivisions.{earlier_settled, earlier_finest, earlier_step, first_settled}
use Rattle.ca_parts.proofs.laws.earlier_parts_tell_if_settled.Goals as goal

pub returns-clause-settled : goal.returns-clause-settled
returns-clause-settled c = earlier_settled

pub returns-clause-finest : goal.returns-clause-finest
returns-clause-finest c = earlier_finest

pub returns-clause-step : goal.returns-clause-step
returns-clause-step c = earlier_step

pub returns-clause-first : goal.returns-clause-first
returns-clause-first c = first_settled
