use Rattle.ca_macro.proofs.OneMeaning.{no_fault_in_a_file}
use Rattle.ca_macro.proofs.laws.no_fault_in_a_file.Goals as goal

pub returns : goal.returns
returns c = no_fault_in_a_file
