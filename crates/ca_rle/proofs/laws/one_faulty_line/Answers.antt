use Rattle.ca_rle.proofs.FaultLines.{one_faulty_line}
use Rattle.ca_rle.proofs.laws.one_faulty_line.Goals as goal

pub returns : goal.returns
returns c = one_faulty_line
