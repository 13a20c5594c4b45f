use Rattle.std.proofs.Common.{arith}
use Rattle.std.proofs.lemmas.Bool.Decides.{nat_tests}
use Rattle.ca_budget.proofs.Powers.{long_run, short_run}
use Rattle.ca_budget.proofs.pace.is_long.Goals as goal

pub returns-else-level-gt14-clause-long : goal.returns-else-level-gt14-clause-long
returns-else-level-gt14-clause-long c = λ some d time. long_run c.args.n c.args.level d (grind (arith, nat_tests, c.if-level-gt14.false)) (grind (arith, nat_tests, some)) time

pub returns-else-level-gt14-clause-short : goal.returns-else-level-gt14-clause-short
returns-else-level-gt14-clause-short c = λ few. short_run c.args.n c.args.level (grind (arith, nat_tests, c.if-level-gt14.false)) (grind (arith, nat_tests, few))
