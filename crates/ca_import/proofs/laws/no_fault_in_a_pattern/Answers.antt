use Rattle.ca_import.proofs.OneMeaning.{no_fault}
use Rattle.ca_import.proofs.laws.no_fault_in_a_pattern.Goals as goal

pub returns : goal.returns
returns c = no_fault
