use Rattle.ca_macro.proofs.OneMeaning.{one_first_fault}
use Rattle.ca_macro.proofs.laws.one_first_fault.Goals as goal

pub returns : goal.returns
returns c = one_first_fault
