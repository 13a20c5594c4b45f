use Rattle.ca_identify.proofs.identification.strides.unknown_after.Goals as goal

pub returns-in-Some-clause-identity : goal.returns-in-Some-clause-identity
returns-in-Some-clause-identity g c = λ cells shows without. rw c.in-Some.is at (c.in_ok-grown.ensures.growth cells shows without)
