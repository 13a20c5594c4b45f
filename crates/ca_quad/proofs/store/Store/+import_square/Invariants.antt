use Rattle.ca_quad.specs.Prelude.{level_of}
use Rattle.ca_quad.proofs.store.Store.+import_square.Given as goal

abbrev pub decreases-import_square : goal.decreases-import_square
decreases-import_square l = level_of l.from.now l.id
