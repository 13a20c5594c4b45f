use Rattle.ca_quad.specs.Prelude.{level_of}
use Rattle.ca_quad.proofs.store.Store.+measure.Given as goal

abbrev pub decreases-measure : goal.decreases-measure
decreases-measure g l = level_of l.self.now l.id
