use Rattle.ca_parts.proofs.EarlierPictures.{one_earlier_by, some_earlier_by}
use Rattle.ca_parts.proofs.laws.one_earlier.Goals as goal

pub returns-clause-some : goal.returns-clause-some
returns-clause-some c = some_earlier_by

pub returns-clause-no_other : goal.returns-clause-no_other
returns-clause-no_other c = one_earlier_by
