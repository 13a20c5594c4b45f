use Rattle.ca_apgcode.proofs.Codes.{one_text}
use Rattle.ca_apgcode.proofs.laws.one_text.Goals as goal

pub returns : goal.returns
returns c = one_text
