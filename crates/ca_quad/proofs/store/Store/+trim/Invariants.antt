use Rattle.ca_quad.specs.Prelude.{level_of}
use Rattle.ca_quad.proofs.store.Store.+trim.Given as goal

abbrev pub decreases-trim : goal.decreases-trim
decreases-trim l = level_of l.self.now l.tree.root
