use Rattle.ca_quad.proofs.Views.{square_whole}
use Rattle.ca_quad.proofs.store.Store.square.Goals as goal

pub returns-clause-whole : goal.returns-clause-whole
returns-clause-whole c = rw c.named_square.ensures.shows (square_whole c.args.self.now c.named_square.ensures.sound c.args.id c.requires)
