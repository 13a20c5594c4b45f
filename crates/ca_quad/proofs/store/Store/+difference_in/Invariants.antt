use Rattle.ca_quad.specs.Prelude.{level_of}
use Rattle.ca_quad.proofs.store.Store.+difference_in.Given as goal

abbrev pub decreases-difference_in : goal.decreases-difference_in
decreases-difference_in l = level_of l.self.now l.a
