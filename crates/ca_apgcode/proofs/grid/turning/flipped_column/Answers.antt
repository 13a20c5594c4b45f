use Rattle.std.proofs.Common.{◌^◌, ◌<◌, subst}
use Rattle.ca_apgcode.proofs.ColumnBits.{flipped_cells, flipped_low}
use Rattle.ca_apgcode.proofs.grid.turning.flipped_column.Goals as goal

pub returns-clause-cells : goal.returns-clause-cells
returns-clause-cells c = λ y within.
    rw (c.reverse_bits.ensures, c.max.ensures) (flipped_cells c.args.column c.args.height y c.requires.most within)

pub returns-clause-low : goal.returns-clause-low
returns-clause-low c =
    rw (c.reverse_bits.ensures, c.max.ensures) (flipped_low c.args.column c.args.height c.requires.most c.requires.low (subst (λ n. n < 2 ^ 64) c.reverse_bits.ensures c.reverse_bits.type_inv))
