use Rattle.ca_parts.proofs.Cuts.{common_cut, cut_of_part}
use Rattle.ca_parts.proofs.laws.divisions_have_a_common_cut.Goals as goal

pub returns-clause-whole : goal.returns-clause-whole
returns-clause-whole c = common_cut

pub returns-clause-part : goal.returns-clause-part
returns-clause-part c = cut_of_part
