use Rattle.ca_parts.proofs.Ends.{some_end, one_end}
use Rattle.ca_parts.proofs.laws.one_end.Goals as goal

pub returns-clause-some : goal.returns-clause-some
returns-clause-some c = some_end

pub returns-clause-no_other : goal.returns-clause-no_other
returns-clause-no_other c = one_end
