use Rattle.std.proofs.Common.{subst, arith}
use Rattle.std.proofs.lemmas.Grind.{common_steps}
use Rattle.ca_plane.specs.Prelude.{Picture, cell as plane_cell}
use Rattle.ca_quad.specs.declared.tree.Tree.{Tree}
use Rattle.ca_quad.specs.Prelude.{cell}
use Rattle.ca_quad.specs.inner.Filled.{cells_from}
use Rattle.ca_quad.specs.inner.Window.{ShowsFrom}
use Rattle.ca_quad.proofs.FilledSquares.{near_first, tree_filled}
use Rattle.ca_quad.proofs.Trims.{cells_as}
use Rattle.ca_quad.proofs.store.Store.from_plane.Goals as goal

pub fill-requires-clause-rows : goal.fill-requires-clause-rows
fill-requires-clause-rows c =
    record { near = near_first c.level_for-level.result c.half_side.result c.first_corner-corner.result (omega (arith, c.level_for-level.ensures.least)) c.level_for-level.ensures.most c.half_side.ensures.half c.first_corner-corner.ensures.x c.first_corner-corner.ensures.y; sparse = grind (arith, common_steps); are_rows = grind (arith, common_steps); cover = grind (arith, common_steps) }

pub returns-clause-cells : goal.returns-clause-cells
returns-clause-cells c =
    let plane = c.args.plane.now in
    let tree : Tree = record { root = c.in_ok-root.root; level = c.level_for-level.result } in
    let at = c.first_corner-corner.result in
    cells_as c.trim.new.self c.trim.result (cell c.fill.new.self tree) (plane_cell plane)
    (tree_filled c.fill.new.self tree (plane_cell plane) c.half_side.result c.half_side.ensures.half (omega (arith, c.level_for-level.ensures.least)) at c.first_corner-corner.ensures.x c.first_corner-corner.ensures.y
    (subst (λ (p : Picture). ShowsFrom c.fill.new.self tree.root tree.level (cells_from (plane_cell p) at) 0 0) c.as_slice-cells.ensures.all c.in_ok-root.ensures.shows) c.level_for-level.ensures.holds)
    c.trim.ensures.cells
