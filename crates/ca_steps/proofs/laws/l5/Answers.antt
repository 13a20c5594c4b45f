use Rattle.ca_steps.proofs.Vectors.{no_vector}
use Rattle.ca_steps.proofs.laws.l5.Goals as goal

pub returns : goal.returns
returns c = no_vector
