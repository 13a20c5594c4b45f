use Rattle.ca_quad.proofs.Greatest.{greatest_joined}
use Rattle.ca_quad.proofs.store.greatest.GreatestStateMeasure.of_four.Goals as goal

pub returns : goal.returns
returns c = greatest_joined c.args._side c.args.nw.state c.args.ne.state c.args.sw.state c.args.se.state c.greatest.result c.greatest.ensures
