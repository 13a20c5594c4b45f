use Rattle.std.proofs.Common.{arith, sym}
use Rattle.ca_quad.proofs.WordExtents.{block_extent}
use Rattle.ca_quad.proofs.store.extent.OptionExtentMeasure.of_number.Goals as goal

pub returns : goal.returns
returns c = λ nodes id sound known number.
    block_extent nodes sound id c.args.cells c.rows.result (omega (arith, c.if-cells-lt-LEAST_BLOCK.false)) number c.rows.type_inv (λ x y h i. sym (c.rows.ensures x y h i)) c.word_extent.result c.word_extent.ensures
