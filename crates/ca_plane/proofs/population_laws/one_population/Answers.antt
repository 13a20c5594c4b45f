use Rattle.ca_plane.proofs.Populations.{same_population}
use Rattle.ca_plane.proofs.population_laws.one_population.Goals as goal

pub returns : goal.returns
returns c = same_population
