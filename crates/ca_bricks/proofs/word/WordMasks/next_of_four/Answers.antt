use Rattle.std.proofs.Common.{◌+◌, ◌*◌, arith}
use Rattle.std.specs.Int.{bit_at}
use Rattle.std.proofs.lemmas.Nat.Bits.{bit_at-lt}
use Rattle.ca_bricks.specs.Prelude.{next_by_count}
use Rattle.ca_bricks.proofs.BrickBits.{told_by_bit}
use Rattle.ca_bricks.proofs.word.WordMasks.next_of_four.Goals as goal

pub returns : goal.returns
returns c = λ counting x are h.
    let n = c.args.n in
    let one = bit_at c.args.count.ones x in
    let two = bit_at c.args.count.twos x in
    told_by_bit (next_by_count counting.birth counting.survival (bit_at c.args.alive x)) two (n + one) (n + 2 + one) (n + one + 2 * two) _ _ _ (bit_at-lt c.args.count.twos x) (c.select_bits.ensures x)
    (c.next_of_two-2.ensures counting x are h) (c.next_of_two.ensures counting x are h) (λ e. omega (arith, e)) (λ e. omega (arith, e))
