use Rattle.std.proofs.Common.{◌≡◌, ◌<◌, ◌^◌, ap, subst, ◌∙◌, arith}
use Rattle.std.specs.Prelude.{pos, ◌+ℤ◌}
use Rattle.ca_run.specs.inner.AgedPlanes.{aged_bit}
use Rattle.ca_run.proofs.AgedWords.{put_low, bit_more, as_byte, byte_low}
use Rattle.ca_run.proofs.leaper.Leaper.aged_row.Goals as goal

pub cells-preserved : goal.cells-preserved
cells-preserved g c =
    let inv = c.cells.invariant in
    let x = c.cells.x in
    let few : c.from.result < 2 = byte_low c.has.result c.from.result c.from.ensures in
    record {
      low = put_low c.cells.row c.from.result x 1 inv.low few (omega (arith, c.cells-test.true));
      bits = λ p a b shows.
          bit_more c.cells.row c.from.result x inv.low few (omega (arith, c.cells-test.true)) (λ k. aged_bit c.args.plane (p (a +ℤ pos k) (b +ℤ pos c.args.y))) (inv.bits p a b shows)
          (as_byte c.has.result c.from.result c.from.ensures ∙ c.has.ensures ∙ ap (aged_bit c.args.plane) (c.state_in.ensures p a b shows));
    }

pub returns-clause-low : goal.returns-clause-low
returns-clause-low g c =
    let all : c.cells.x ≡ 8 = omega (arith, c.cells-test.false, c.cells.auto.x-end) in
    subst (λ x. c.cells.row < 2 ^ x) all c.cells.invariant.low

pub returns-clause-bits : goal.returns-clause-bits
returns-clause-bits g c = λ p a b shows x h. c.cells.invariant.bits p a b shows x (omega (arith, c.cells-test.false, h))
