use Rattle.std.proofs.Common.{refl}
use Rattle.ca_quad.specs.Prelude.{cell}
use Rattle.ca_macro.proofs.Roots.{padded_ok}
use Rattle.ca_macro.proofs.write.root.padded_root.Goals as goal

pub returns-clause-level : goal.returns-clause-level
returns-clause-level c =
    padded_ok c.args.states (cell c.args.store.now c.args.least) c.args.store.now c.pad_to.new.store c.args.least c.requires.tree c.requires.trimmed (λ x y. refl)
    c.pad_to.result c.lowest_level.result c.lowest_level.ensures c.pad_to.ensures.cells c.pad_to.ensures.low c.pad_to.ensures.high
