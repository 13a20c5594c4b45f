use Rattle.ca_apgcode.proofs.Columns.{five_read}
use Rattle.ca_apgcode.proofs.grid.Grid.five_cells.Goals as goal

pub returns-clause-cells : goal.returns-clause-cells
returns-clause-cells c = five_read c.args.self.now c.self.inside.height c.self.inside.columns.items c.index.result.now c.from.result c.args.x c.self.view_is c.from.ensures c.index.ensures c.requires.x c.args.y
