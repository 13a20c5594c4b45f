use Rattle.ca_parts.proofs.LinkedParts.{linked_parts_are_finer}
use Rattle.ca_parts.proofs.laws.linked_parts_lie_in_parts.Goals as goal

pub returns : goal.returns
returns c = linked_parts_are_finer
