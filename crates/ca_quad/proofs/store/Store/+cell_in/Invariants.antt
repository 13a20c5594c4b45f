use Rattle.ca_quad.specs.Prelude.{level_of}
use Rattle.ca_quad.proofs.store.Store.+cell_in.Given as goal

abbrev pub decreases-cell_in : goal.decreases-cell_in
decreases-cell_in l = level_of l.self.now l.id
