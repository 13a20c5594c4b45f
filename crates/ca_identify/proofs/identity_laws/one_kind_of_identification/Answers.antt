use Rattle.ca_identify.proofs.OneIdentity.{one_identified, identified_or_fault, one_fault}
use Rattle.ca_identify.proofs.identity_laws.one_kind_of_identification.Goals as goal

pub returns-clause-one_identity : goal.returns-clause-one_identity
returns-clause-one_identity c = λ bytes tables n limit one two h k. one_identified bytes tables n limit one two h k

pub returns-clause-identity_or_fault : goal.returns-clause-identity_or_fault
returns-clause-identity_or_fault c = λ bytes tables work n limit identity fault m w h k. identified_or_fault bytes tables n limit work identity fault m w h k

pub returns-clause-one_fault : goal.returns-clause-one_fault
returns-clause-one_fault c = λ bytes tables work n limit one two m w o v h k. one_fault bytes tables n limit work one two m w o v h k
