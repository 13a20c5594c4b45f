use Rattle.std.proofs.Common.{arith}
use Rattle.std.proofs.lemmas.Bool.Decides.{nat_tests}
use Rattle.ca_rule.proofs.Ends.{hood_of-last, body_of-last}
use Rattle.ca_rule.proofs.spelling.split_suffix.Goals as goal

pub returns-then-is_letter-clause-body : goal.returns-then-is_letter-clause-body
returns-then-is_letter-clause-body c = grind (arith, nat_tests, body_of-last c.in-Some.before.now c.in-Some.last.now)

pub returns-then-is_letter-clause-hood : goal.returns-then-is_letter-clause-hood
returns-then-is_letter-clause-hood c = grind (arith, nat_tests, hood_of-last c.in-Some.before.now c.in-Some.last.now)

pub returns-then-is_letter-2-clause-body : goal.returns-then-is_letter-2-clause-body
returns-then-is_letter-2-clause-body c = grind (arith, nat_tests, body_of-last c.in-Some.before.now c.in-Some.last.now)

pub returns-then-is_letter-2-clause-hood : goal.returns-then-is_letter-2-clause-hood
returns-then-is_letter-2-clause-hood c = grind (arith, nat_tests, hood_of-last c.in-Some.before.now c.in-Some.last.now)

pub returns-clause-body : goal.returns-clause-body
returns-clause-body c = grind (arith, nat_tests, body_of-last c.in-Some.before.now c.in-Some.last.now)

pub returns-clause-hood : goal.returns-clause-hood
returns-clause-hood c = grind (arith, nat_tests, hood_of-last c.in-Some.before.now c.in-Some.last.now)
