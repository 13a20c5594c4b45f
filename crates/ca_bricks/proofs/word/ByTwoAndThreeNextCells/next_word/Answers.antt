use Rattle.std.proofs.Common.{refl, arith}
use Rattle.std.specs.Int.{bit_at}
use Rattle.std.proofs.lemmas.Nat.Bits.{bit_at-lt, bit_at_and}
use Rattle.ca_bricks.specs.Prelude.{count_at}
use Rattle.ca_bricks.proofs.NextStates.{few_told}
use Rattle.ca_bricks.proofs.word.ByTwoAndThreeNextCells.next_word.Goals as goal

pub returns : goal.returns
returns c = λ counting x by h most.
    let count = c.args.count in
    let which = c.and_not.result in
    let next = c.next_of_two.result in
    few_told counting.birth counting.survival (bit_at c.args.alive x)
    (bit_at count.ones x) (bit_at count.twos x) (bit_at count.fours x) (bit_at count.eights x) (count_at count x)
    (bit_at-lt count.ones x) (bit_at-lt count.twos x) (bit_at-lt count.fours x) refl most by.0 0 (bit_at which x) _ refl (c.and_not.ensures x)
    (omega (arith, bit_at_and which next x, c.next_of_two.ensures counting x by.1 h))
