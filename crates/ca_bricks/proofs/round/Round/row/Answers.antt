use Rattle.std.proofs.Common.{◌≡◌, suc, ◌+◌, sym, ap, ◌∙◌, arith, slice_index}
use Rattle.ca_bricks.specs.Prelude.{round_cells}
use Rattle.ca_bricks.specs.inner.Planes.{column_place}
use Rattle.ca_bricks.proofs.round.Round.row.Goals as goal

pub returns-in-East : goal.returns-in-East
returns-in-East c = λ x h.
    let two : suc (suc x) ≡ 2 + x = omega arith in
    c.east_bits.ensures (slice_index c.args.self.now.west c.args.y) x h
    ∙ ap (λ u. round_cells c.args.self.now u c.args.y) (two ∙ ap (λ column. column_place column + x) (sym c.in-East.is))
