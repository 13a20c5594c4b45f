use Rattle.ca_quad.specs.Prelude.{level_of}
use Rattle.ca_quad.proofs.store.Store.+is_empty.Given as goal

abbrev pub decreases-is_empty : goal.decreases-is_empty
decreases-is_empty l = level_of l.self.now l.id
