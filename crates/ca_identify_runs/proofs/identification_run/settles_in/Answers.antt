use Rattle.ca_identify_runs.proofs.Settles.{census_settles}
use Rattle.ca_identify_runs.proofs.identification_run.settles_in.Goals as goal

pub returns-in-Ok-Some : goal.returns-in-Ok-Some
returns-in-Ok-Some c =
    census_settles _ _ _ c.in-Unknown.growth _ c.in-Ok-Some.field-0 c.in-Ok-Some.found _ c.in-Unknown.is (cc) c.len.ensures c.in-Ok-Some.ensures.census
