use Rattle.ca_macro.proofs.OneMeaning.{one_fault}
use Rattle.ca_macro.proofs.laws.one_fault.Goals as goal

pub returns : goal.returns
returns c = one_fault
