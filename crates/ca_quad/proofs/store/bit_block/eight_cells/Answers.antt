use Rattle.ca_quad.proofs.EightRows.{part_bit}
use Rattle.ca_quad.proofs.store.bit_block.eight_cells.Goals as goal

pub returns : goal.returns
returns c = λ i low. part_bit _ c.args.x 8 i low
