use Rattle.ca_rule.specs.Prelude.{next_of}
use Rattle.ca_census.proofs.CensusClaims.{becomes_plane, objects_hold}
use Rattle.ca_census.proofs.laws.census_claims_are_true.Goals as goal

pub returns-clause-becomes : goal.returns-clause-becomes
returns-clause-becomes c = λ rule cells reach census is. becomes_plane (next_of rule) is.coded is.settling census is.is_census cells reach is.settles

pub returns-clause-objects : goal.returns-clause-objects
returns-clause-objects c = λ rule cells reach census is. objects_hold (next_of rule) is.coded is.settling census is.is_census
