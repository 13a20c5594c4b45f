use Rattle.ca_pattern.proofs.Empties.{dead_corner, not_empty}
use Rattle.ca_pattern.proofs.Corners.{dead_or_live}
use Rattle.std.proofs.Common.{◌∙◌, sym}
use Rattle.std.proofs.lemmas.Bool.{false≢true}
use Rattle.ca_evolution.proofs.trees.is_dead.Goals as goal

pub returns-clause-dead : goal.returns-clause-dead
returns-clause-dead c = λ yes. dead_corner c.args.store.now c.args.tree.now ((c.is_empty.ensures c.args.tree.now.level c.requires.is_tree).0 yes)

pub returns-clause-live : goal.returns-clause-live
returns-clause-live c = λ no. dead_or_live _ c.requires.near (λ dead. false≢true (sym no ∙ (c.is_empty.ensures c.args.tree.now.level c.requires.is_tree).1 (not_empty c.args.store.now c.args.tree.now dead)))
