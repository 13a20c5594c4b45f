use Rattle.ca_quad.proofs.Cuts.{cells_sixteen}
use Rattle.ca_quad.proofs.store.Store.sixteen_cells.Goals as goal

pub returns : goal.returns
returns c =
    cells_sixteen c.args.self.now c.args.four c.cells4.result c.cells4-2.result c.cells4-3.result c.cells4-4.result c.cells4.ensures.corners c.cells4-2.ensures.corners c.cells4-3.ensures.corners c.cells4-4.ensures.corners
