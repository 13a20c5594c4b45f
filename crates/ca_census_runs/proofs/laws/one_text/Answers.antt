use Rattle.ca_census_runs.proofs.OneText.{one_census}
use Rattle.ca_census_runs.proofs.laws.one_text.Goals as goal

pub returns : goal.returns
returns c = one_census
