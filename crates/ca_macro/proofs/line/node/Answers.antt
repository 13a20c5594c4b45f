use Rattle.std.proofs.Common.{arith}
use Rattle.std.proofs.lemmas.Bool.Decides.{nat_tests}
use Rattle.ca_macro.proofs.Numbers.{large_state}
use Rattle.ca_macro.proofs.line.node.Goals as goal

pub returns-in_default-states-clause-fault : goal.returns-in_default-states-clause-fault
returns-in_default-states-clause-fault c = λ earlier. large_state _ c.in-Some.numbers c.in-Some.ensures (grind (arith, nat_tests, c.if-numbers-eq0.false)) (grind (arith, nat_tests, c.if-numbers-gt1.false)) c.in_default-states.ensures
