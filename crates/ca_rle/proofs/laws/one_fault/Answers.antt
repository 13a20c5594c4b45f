use Rattle.ca_rle.proofs.OneFault.{one_fault}
use Rattle.ca_rle.proofs.laws.one_fault.Goals as goal

pub returns : goal.returns
returns c = one_fault
