use Rattle.ca_parts.proofs.Regions.{finest_of_regions}
use Rattle.ca_parts.proofs.laws.finest_divisions_of_regions.Goals as goal

pub returns : goal.returns
returns c = finest_of_regions
