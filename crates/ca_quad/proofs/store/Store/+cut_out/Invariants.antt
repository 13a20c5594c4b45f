use Rattle.ca_quad.specs.Prelude.{level_of}
use Rattle.ca_quad.proofs.store.Store.+cut_out.Given as goal

abbrev pub decreases-cut_out : goal.decreases-cut_out
decreases-cut_out l = level_of l.self.now l.four.nw
