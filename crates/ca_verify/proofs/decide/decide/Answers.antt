use Rattle.ca_verify.proofs.decide.decide.Goals as goal

pub returns-in-Ok-Some-clause-decided : goal.returns-in-Ok-Some-clause-decided
returns-in-Ok-Some-clause-decided g c = λ cells other shown. rw c.in-Ok-Some.field-0-is at (rw c.in-Ok-Some.is at (c.refutation_of.ensures.refutation cells other shown))
