use Rattle.ca_macro.proofs.OneMeaning.{no_fault_within_range}
use Rattle.ca_macro.proofs.laws.no_fault_within_range.Goals as goal

pub returns : goal.returns
returns c = no_fault_within_range
