use Rattle.ca_quad.proofs.LiveCells.{counts_all}
use Rattle.ca_quad.proofs.store.Store.population.Goals as goal

pub returns : goal.returns
returns c = counts_all c.args.self.now c.args.tree c.requires.tree c.live_cells.result c.requires.level c.live_cells.ensures.count
