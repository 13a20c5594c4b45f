use Rattle.ca_apgcode.proofs.EightTexts.{among_if_ok}
use Rattle.ca_apgcode.proofs.rounds.least_representation.Goals as goal

pub returns : goal.returns
returns c = λ cells box. among_if_ok c.least_of_turns.result cells c.in_ok-upright.upright.items (c.args.grid.now, box, c.in_ok-upright.ensures) (c.least_of_turns.ensures cells box)
