use Rattle.ca_rle.proofs.FaultLines.{line_after, line_of_end}
use Rattle.ca_rle.proofs.laws.counted_lines.Goals as goal

pub returns-clause-rest : goal.returns-clause-rest
returns-clause-rest c = line_after

pub returns-clause-end : goal.returns-clause-end
returns-clause-end c = line_of_end
