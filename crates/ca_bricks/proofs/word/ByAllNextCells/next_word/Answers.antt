use Rattle.std.proofs.Common.{◌+◌, ◌*◌, arith}
use Rattle.std.specs.Int.{bit_at}
use Rattle.std.proofs.lemmas.Nat.Bits.{bit_at-lt}
use Rattle.ca_bricks.specs.Prelude.{count_at, next_by_count}
use Rattle.ca_bricks.proofs.BrickBits.{told_by_bit}
use Rattle.ca_bricks.proofs.word.ByAllNextCells.next_word.Goals as goal

pub returns : goal.returns
returns c = λ counting x by h most.
    let count = c.args.count in
    let told = next_by_count counting.birth counting.survival (bit_at c.args.alive x) in
    let one = bit_at count.ones x in
    let two = bit_at count.twos x in
    let four = bit_at count.fours x in
    let below = told_by_bit told four (0 + one + 2 * two) (4 + one + 2 * two) (one + 2 * two + 4 * four) _ _ _ (bit_at-lt count.fours x) (c.select_bits-low.ensures x)
    (c.next_of_four-below.ensures counting x by h) (c.next_of_four-above.ensures counting x by h) (λ e. omega (arith, e)) (λ e. omega (arith, e)) in
    told_by_bit told (bit_at count.eights x) (one + 2 * two + 4 * four) 8 (count_at count x) _ _ _ (bit_at-lt count.eights x) (c.select_bits.ensures x) below (c.next.ensures counting x by h)
    (λ e. omega (arith, e)) (λ e. omega (arith, e, most))
