use Rattle.ca_quad.proofs.CopiedSquares.{still_trimmed}
use Rattle.ca_quad.proofs.CopyCounts.{few_added}
use Rattle.ca_quad.proofs.store.Store.import.Goals as goal

pub returns-clause-trimmed : goal.returns-clause-trimmed
returns-clause-trimmed c = still_trimmed c.args.from.now c.import_square.new.self c.args.tree c.in_ok-root.root c.requires.tree c.in_ok-root.ensures.copy

pub returns-clause-count : goal.returns-clause-count
returns-clause-count c = few_added c.args.from.now c.args.tree.root c.args.self.now c.import_square.new.self c.import_square.ensures.sound c.import_square.ensures.grows.sound c.requires.tree.before c.import_square.ensures.added

pub returns-in_err-root-clause-count : goal.returns-in_err-root-clause-count
returns-in_err-root-clause-count c = few_added c.args.from.now c.args.tree.root c.args.self.now c.import_square.new.self c.import_square.ensures.sound c.import_square.ensures.grows.sound c.requires.tree.before c.import_square.ensures.added
