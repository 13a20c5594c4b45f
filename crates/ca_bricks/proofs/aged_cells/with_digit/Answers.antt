use Rattle.std.proofs.Common.{◌≡◌, ◌+◌, ◌*◌, ◌%◌, slice_index, ap, ◌∙◌, arith}
use Rattle.std.specs.Prelude.{bit_or}
use Rattle.std.specs.Int.{bit_at}
use Rattle.std.proofs.lemmas.List.{length-set}
use Rattle.std.proofs.lemmas.Nat.Bits.{shr_and_one}
use Rattle.ca_bricks.proofs.AgedSquares.{digit_more}
use Rattle.ca_bricks.proofs.BrickLists.{set_more}
use Rattle.ca_bricks.proofs.aged_cells.with_digit.Goals as goal

pub cells-preserved : goal.cells-preserved
cells-preserved c =
    let inv = c.cells.invariant in
    let numbers = c.args.numbers.now in
    let word = c.args.word in
    let place = c.cells.place in
    record {
      size = length-set c.cells.longer place _ ∙ inv.size;
      made = set_more (λ i n. n ≡ 2 * slice_index numbers i % 256 + bit_at word i) c.cells.longer place _ (omega (arith, inv.size, c.cells-test.true)) inv.made
          (ap (bit_or (slice_index numbers place * 2 % 256)) (shr_and_one word place) ∙ digit_more (slice_index numbers place) word place);
    }
