use Rattle.std.proofs.Common.{◌≡◌, pos, ◌+ℤ◌, subst, arith}
use Rattle.std.specs.Int.{w128}
use Rattle.std.proofs.lemmas.Int.{to_z-of_z}
use Rattle.ca_quad.proofs.BitWords.{AreShiftedBits-bits}
use Rattle.ca_quad.proofs.store.bit_block.moved.Goals as goal

pub returns : goal.returns
returns c =
    let way = subst (λ z. (pos c.zeros_before.result +ℤ z) ≡ pos 64) (to_z-of_z w128 c.args.way (record { sfits = c.ranges.way.sfits })) c.zeros_before.ensures in
    AreShiftedBits-bits c.args.bits c.zeros_before.result c.args.way c.bits_from.result (omega (arith, c.ranges.bits.fits)) way c.bits_from.ensures
