use Rattle.std.proofs.Common.{◌+◌, arith}
use Rattle.std.specs.Int.{bit_at}
use Rattle.std.proofs.lemmas.Nat.Bits.{bit_at-lt}
use Rattle.ca_bricks.specs.Prelude.{next_by_count}
use Rattle.ca_bricks.proofs.BrickBits.{told_by_bit}
use Rattle.ca_bricks.proofs.word.WordMasks.next_of_two.Goals as goal

pub returns : goal.returns
returns c = λ counting x are h.
    let n = c.args.n in
    let one = bit_at c.args.ones x in
    told_by_bit (next_by_count counting.birth counting.survival (bit_at c.args.alive x)) one n (n + 1) (n + one) _ _ _ (bit_at-lt c.args.ones x) (c.select_bits.ensures x)
    (c.next-2.ensures counting x are h) (c.next.ensures counting x are h) (λ e. omega (arith, e)) (λ e. omega (arith, e))
