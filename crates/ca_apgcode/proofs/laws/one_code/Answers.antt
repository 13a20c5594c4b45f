use Rattle.ca_apgcode.proofs.Copies.{one_code_of_copies}
use Rattle.ca_apgcode.proofs.laws.one_code.Goals as goal

pub returns : goal.returns
returns c = one_code_of_copies
