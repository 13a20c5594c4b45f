use Rattle.ca_apgcode.proofs.PhaseTexts.{first_if_ok, more_if_ok}
use Rattle.ca_apgcode.proofs.phases.least_with.Goals as goal

pub returns-in-Some : goal.returns-in-Some
returns-in-Some c = λ phases n box before. more_if_ok c.least_with_turns.result phases n c.in-Some.least.items (rw c.in-Some.is at before) (c.least_with_turns.ensures (phases n) box)

pub returns-in-None : goal.returns-in-None
returns-in-None c = λ phases n box before. first_if_ok c.least_representation.result phases n (rw c.in-None.is at before) (c.least_representation.ensures (phases n) box)
