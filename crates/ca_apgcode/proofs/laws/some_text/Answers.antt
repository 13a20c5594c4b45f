use Rattle.ca_apgcode.proofs.SomeTexts.{some_text}
use Rattle.ca_apgcode.proofs.laws.some_text.Goals as goal

pub returns : goal.returns
returns c = some_text
