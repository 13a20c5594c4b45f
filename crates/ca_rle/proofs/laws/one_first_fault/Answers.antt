use Rattle.ca_rle.proofs.OneFault.{one_first_fault}
use Rattle.ca_rle.proofs.laws.one_first_fault.Goals as goal

pub returns : goal.returns
returns c = one_first_fault
