use Rattle.ca_apgcode.proofs.Codes.{one_picture}
use Rattle.ca_apgcode.proofs.laws.one_picture.Goals as goal

pub returns : goal.returns
returns c = one_picture
