use Rattle.ca_identify.proofs.OneIdentity.{one_identity, one_identity_after}
use Rattle.ca_identify.proofs.identity_laws.one_identity.Goals as goal

pub returns-clause-now : goal.returns-clause-now
returns-clause-now c = λ next cells limit one two h k. one_identity next cells limit one two h k

pub returns-clause-later : goal.returns-clause-later
returns-clause-later c = λ next cells n limit one two h k. one_identity_after next cells n limit one two h k
