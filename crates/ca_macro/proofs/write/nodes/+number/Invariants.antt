use Rattle.ca_quad.specs.Prelude.{level_of}
use Rattle.ca_macro.proofs.write.nodes.+number.Given as goal

abbrev pub decreases-number : goal.decreases-number
decreases-number l = level_of l.store.now l.id
