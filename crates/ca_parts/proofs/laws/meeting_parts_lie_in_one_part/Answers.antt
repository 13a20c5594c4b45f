use Rattle.ca_parts.proofs.PartsWithin.{meeting_parts}
use Rattle.ca_parts.proofs.laws.meeting_parts_lie_in_one_part.Goals as goal

pub returns : goal.returns
returns c = meeting_parts
