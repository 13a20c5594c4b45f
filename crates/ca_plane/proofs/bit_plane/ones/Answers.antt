use Rattle.std.proofs.Common.{arith}
use Rattle.std.proofs.Math.Nat.{pow-le-pow_right}
use Rattle.ca_plane.proofs.BitPlanes.{AreBitsOf-mask}
use Rattle.ca_plane.proofs.bit_plane.ones.Goals as goal

pub overflow_sub-result : goal.overflow_sub-result
overflow_sub-result c = rw (c.power_of_two.ensures, c.power_of_two-2.ensures) (pow-le-pow_right {n = 2} (omega arith) {i = c.args.first} {j = c.args.end} c.requires.order)

pub returns : goal.returns
returns c = rw (c.power_of_two.ensures, c.power_of_two-2.ensures) (AreBitsOf-mask c.args.first c.args.end)
