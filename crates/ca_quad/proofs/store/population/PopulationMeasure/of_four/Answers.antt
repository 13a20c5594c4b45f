use Rattle.ca_quad.proofs.Population.{count_joined}
use Rattle.ca_quad.proofs.store.population.PopulationMeasure.of_four.Goals as goal

pub returns : goal.returns
returns c = count_joined c.args._side c.args.nw.cells c.args.ne.cells c.args.sw.cells c.args.se.cells c.sum_of_four.result c.sum_of_four.ensures
