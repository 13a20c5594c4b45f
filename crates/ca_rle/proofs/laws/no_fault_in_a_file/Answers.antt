use Rattle.ca_rle.proofs.OneFault.{no_fault_in_a_file}
use Rattle.ca_rle.proofs.laws.no_fault_in_a_file.Goals as goal

pub returns : goal.returns
returns c = no_fault_in_a_file
