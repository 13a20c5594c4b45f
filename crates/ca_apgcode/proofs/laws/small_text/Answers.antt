use Rattle.ca_apgcode.proofs.SmallPictures.{small_text}
use Rattle.ca_apgcode.proofs.laws.small_text.Goals as goal

pub returns : goal.returns
returns c = small_text
