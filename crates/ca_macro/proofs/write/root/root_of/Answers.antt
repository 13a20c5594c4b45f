use Rattle.ca_quad.specs.Prelude.{cell}
use Rattle.ca_macro.proofs.Roots.{least_as_ok}
use Rattle.ca_macro.proofs.write.root.root_of.Goals as goal

pub returns-clause-level : goal.returns-clause-level
returns-clause-level c =
    least_as_ok c.args.states (cell c.trim.new.self c.in_ok-least.least) (cell c.args.store.now c.args.tree) c.in_ok-least.ensures.cells c.padded_root.result c.padded_root.ensures.level
