use Rattle.std.proofs.Common.{◌+◌, ◌*◌, arith}
use Rattle.ca_quad.specs.inner.Cut.{cells_of_four}
use Rattle.ca_quad.proofs.Cuts.{sixteen_at, corners_window}
use Rattle.ca_quad.proofs.store.Store.cut_cells.Goals as goal

pub returns-clause-shows : goal.returns-clause-shows
returns-clause-shows c =
    let cells = cells_of_four c.args.self.now 1 c.args.four in
    let x = c.args.place.x in
    let y = c.args.place.y in
    let at = sixteen_at cells c.sixteen_cells-cells.result c.sixteen_cells-cells.ensures in
    corners_window cells x y _ _ _ _ (at x y (4 * y + x) (omega arith) (omega (arith, c.requires.x)) (omega (arith, c.requires.y)))
    (at (x + 1) y (4 * y + x + 1) (omega arith) (omega (arith, c.requires.x)) (omega (arith, c.requires.y)))
    (at x (y + 1) (4 * y + x + 4) (omega arith) (omega (arith, c.requires.x)) (omega (arith, c.requires.y)))
    (at (x + 1) (y + 1) (4 * y + x + 5) (omega arith) (omega (arith, c.requires.x)) (omega (arith, c.requires.y)))
    c.leaf.new.self c.leaf.result c.leaf.ensures.shows
