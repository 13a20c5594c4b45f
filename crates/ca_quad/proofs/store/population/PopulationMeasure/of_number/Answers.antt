use Rattle.ca_quad.proofs.NumberedSquares.{count_of_number}
use Rattle.ca_quad.proofs.store.population.PopulationMeasure.of_number.Goals as goal

pub returns : goal.returns
returns c = λ nodes id sound known number. count_of_number nodes sound id c.args.cells known number
