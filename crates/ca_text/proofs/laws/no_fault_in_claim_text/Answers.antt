use Rattle.ca_text.proofs.OneMeaning.{no_first_fault}
use Rattle.ca_text.proofs.laws.no_fault_in_claim_text.Goals as goal

pub returns : goal.returns
returns c = no_first_fault
