use Rattle.std.proofs.Common.{subst, ◌∙◌, arith}
use Rattle.ca_plane.specs.Prelude.{bit_cell}
use Rattle.ca_quad.specs.declared.tree.Tree.{Tree}
use Rattle.ca_quad.specs.Prelude.{cell, HoldsAll}
use Rattle.ca_quad.specs.inner.Filled.{cells_from}
use Rattle.ca_quad.specs.inner.Window.{ShowsFrom}
use Rattle.ca_quad.proofs.FilledSquares.{near_first, tree_filled}
use Rattle.ca_quad.proofs.Trims.{cells_as}
use Rattle.ca_quad.proofs.store.Store.from_bits.Goals as goal

pub fill_words-requires-clause-near : goal.fill_words-requires-clause-near
fill_words-requires-clause-near c =
    near_first c.level_of_words-level.result c.half_side.result c.first_corner-corner.result (omega (arith, c.level_of_words-level.ensures.least)) c.level_of_words-level.ensures.most c.half_side.ensures.half c.first_corner-corner.ensures.x c.first_corner-corner.ensures.y

pub returns-clause-cells : goal.returns-clause-cells
returns-clause-cells c =
    let plane = c.args.plane in
    let tree : Tree = record { root = c.in_ok-root.root; level = c.level_of_words-level.result } in
    let at = c.first_corner-corner.result in
    let is = c.into_words-words.ensures.words in
    let holds = subst (λ l. HoldsAll tree.level (bit_cell l)) (c.deref.ensures.value ∙ is) c.level_of_words-level.ensures.holds in
    cells_as c.trim.new.self c.trim.result (cell c.fill_words.new.self tree) (bit_cell plane)
    (tree_filled c.fill_words.new.self tree (bit_cell plane) c.half_side.result c.half_side.ensures.half (omega (arith, c.level_of_words-level.ensures.least)) at c.first_corner-corner.ensures.x c.first_corner-corner.ensures.y
    (subst (λ l. ShowsFrom c.fill_words.new.self tree.root tree.level (cells_from (bit_cell l) at) 0 0) is c.in_ok-root.ensures.shows) holds)
    c.trim.ensures.cells
