use Rattle.ca_parts.proofs.TwoApart.{further_from_apart, apart_from_further}
use Rattle.ca_parts.proofs.apart.apart_planes_are_further_than_two.Goals as goal

pub returns : goal.returns
returns c = λ f g. (further_from_apart f g, apart_from_further f g)
