use Rattle.ca_text.proofs.OneMeaning.{same_first_fault}
use Rattle.ca_text.proofs.laws.one_fault.Goals as goal

pub returns : goal.returns
returns c = same_first_fault
