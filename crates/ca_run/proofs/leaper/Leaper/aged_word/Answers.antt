use Rattle.std.proofs.Common.{arith}
use Rattle.std.specs.Prelude.{pos, ◌+ℤ◌}
use Rattle.ca_run.specs.inner.AgedPlanes.{aged_bit}
use Rattle.ca_run.proofs.AgedWords.{row_low, row_more, word_of_bits}
use Rattle.ca_run.proofs.leaper.Leaper.aged_word.Goals as goal

pub rows-preserved : goal.rows-preserved
rows-preserved g c =
    let inv = c.rows.invariant in
    let row = c.aged_row.result in
    record {
      low = row_low c.rows.word row c.rows.y inv.low c.aged_row.ensures.low c.rows-test.true;
      bits = λ p a b shows.
          row_more c.rows.word row c.rows.y inv.low c.aged_row.ensures.low c.rows-test.true (λ x v. aged_bit c.args.plane (p (a +ℤ pos x) (b +ℤ pos v))) (inv.bits p a b shows)
          (c.aged_row.ensures.bits p a b shows);
    }

pub returns : goal.returns
returns g c = λ p a b shows.
    word_of_bits c.rows.word (λ x y. aged_bit c.args.plane (p x y)) a b (λ x y i j. c.rows.invariant.bits p a b shows x y i (omega (arith, c.rows-test.false, j)))
