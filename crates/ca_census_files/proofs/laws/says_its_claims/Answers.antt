use Rattle.ca_census_files.proofs.FilesSaid.{files_said}
use Rattle.ca_census_files.proofs.laws.says_its_claims.Goals as goal

pub returns : goal.returns
returns c = files_said
