use Rattle.std.proofs.Common.{refl, arith}
use Rattle.std.specs.Prelude.{◌+ℤ◌}
use Rattle.std.proofs.lemmas.Int.{ints}
use Rattle.ca_parts.proofs.TwoApart.{near_live, row_dark, one_row_more}
use Rattle.ca_parts.proofs.apart.is_near.Goals as goal

pub returns-then-is_live_between-clause-near : goal.returns-then-is_live_between-clause-near
returns-then-is_live_between-clause-near c = λ _.
    near_live c.args.cells.now (c.args.at.x +ℤ c.args.way.dx) (c.args.at.y +ℤ c.args.way.dy) _ _ _ (c.if-is_live_between.ensures.live refl)
    (omega (arith, ints)) (omega (arith, ints)) (omega (arith, ints)) (omega (arith, ints))

pub rows-preserved : goal.rows-preserved
rows-preserved c =
    let dark_row = row_dark c.args.cells.now (c.args.at.x +ℤ c.args.way.dx) _ _ _ (c.if-is_live_between.ensures.dead refl) (omega (arith, ints)) (omega (arith, ints)) in
    record {
      low = omega (arith, ints);
      dark = λ u v left right low high.
          one_row_more c.args.cells.now _ _ u v (dark_row u left right) (λ less. c.rows.invariant.dark u v left right low (omega (arith, ints))) high (omega (arith, ints));
    }

pub returns-clause-far : goal.returns-clause-far
returns-clause-far c = λ _ near.
    let (u, v, live, within) = near in
    live (c.rows.invariant.dark u v within.0 within.1 within.2 (omega (arith, ints, within)))
