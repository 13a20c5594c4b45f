use Rattle.std.proofs.Common.{length}
use Rattle.ca_macro.proofs.line.numbers.+set_numbers.Given as goal

abbrev pub decreases-set_numbers : goal.decreases-set_numbers
decreases-set_numbers l = length l.numbers.now
