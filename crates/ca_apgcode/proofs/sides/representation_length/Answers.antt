use Rattle.std.proofs.Common.{refl}
use Rattle.ca_apgcode.proofs.sides.representation_length.Goals as goal

pub returns : goal.returns
returns c = c.lengths_from.ensures.seen c.args.grid.now refl
