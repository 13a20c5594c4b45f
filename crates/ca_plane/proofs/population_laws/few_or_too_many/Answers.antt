use Rattle.ca_plane.proofs.Populations.{not_both}
use Rattle.ca_plane.proofs.population_laws.few_or_too_many.Goals as goal

pub returns : goal.returns
returns c = not_both
