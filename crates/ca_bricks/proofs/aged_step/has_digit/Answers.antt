use Rattle.std.proofs.Common.{arith}
use Rattle.std.proofs.lemmas.Bool.Decides.{nat_tests}
use Rattle.std.proofs.lemmas.Nat.Bits.{bit_at_above}
use Rattle.ca_bricks.proofs.aged_step.has_digit.Goals as goal

pub returns-else-k-lt16 : goal.returns-else-k-lt16
returns-else-k-lt16 c =
    let none = bit_at_above c.args.number 16 c.args.k c.ranges.number.fits c.if-k-lt16.false in
    grind (arith, nat_tests, none, c.if-k-lt16.false)
