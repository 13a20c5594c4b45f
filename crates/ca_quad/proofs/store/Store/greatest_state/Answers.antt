use Rattle.ca_quad.proofs.Greatest.{tree_most, tree_shown}
use Rattle.ca_quad.proofs.store.Store.greatest_state.Goals as goal

pub returns-clause-most : goal.returns-clause-most
returns-clause-most c = tree_most c.args.self.now c.args.tree c.requires c.in_ok-greatest.greatest.state c.in_ok-greatest.ensures.measure

pub returns-clause-shown : goal.returns-clause-shown
returns-clause-shown c = tree_shown c.args.self.now c.args.tree c.requires c.in_ok-greatest.greatest.state c.in_ok-greatest.ensures.measure
