use Rattle.ca_rle.proofs.OneFault.{no_fault_within_limits}
use Rattle.ca_rle.proofs.laws.no_fault_within_limits.Goals as goal

pub returns : goal.returns
returns c = no_fault_within_limits
