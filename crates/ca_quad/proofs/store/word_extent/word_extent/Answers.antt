use Rattle.std.proofs.Common.{subst, sym, arith}
use Rattle.ca_quad.specs.Prelude.{IsEmpty}
use Rattle.ca_plane.specs.Prelude.{word_cells}
use Rattle.ca_quad.proofs.WordExtents.{word_box, some_column, no_word_cells}
use Rattle.ca_quad.proofs.store.word_extent.word_extent.Goals as goal

pub returns-then-word-eq0 : goal.returns-then-word-eq0
returns-then-word-eq0 c = subst (λ n. IsEmpty (word_cells n)) (sym c.if-word-eq0.true) no_word_cells

pub ends_of-columns-requires : goal.ends_of-columns-requires
ends_of-columns-requires c = some_column c.args.word c.columns_of.result (omega (arith, c.if-word-eq0.false)) c.ranges.word.fits c.columns_of.ensures

pub returns : goal.returns
returns c = word_box c.args.word c.columns_of.result c.ends_of-columns.result c.ends_of-cells.result c.columns_of.ensures c.ends_of-columns.ensures c.ends_of-cells.ensures
