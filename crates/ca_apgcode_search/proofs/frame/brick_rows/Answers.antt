use Rattle.std.proofs.Common.{◌≡◌, ◌+◌, ap, sym, ◌∙◌, arith}
use Rattle.std.proofs.lemmas.List.{length-set}
use Rattle.ca_bricks.proofs.BrickLists.{set_more}
use Rattle.ca_apgcode_search.specs.inner.Frames.{frame_row}
use Rattle.ca_apgcode_search.proofs.frame.brick_rows.Goals as goal

pub rows-preserved : goal.rows-preserved
rows-preserved c =
    let inv = c.rows.invariant in
    let place : c.from.result ≡ c.rows.y = c.from.ensures in
    record {
      size = length-set c.rows.rows c.from.result c.frame_row.result ∙ inv.size;
      made = λ y low. set_more (λ y row. row ≡ frame_row c.args.grid.now (c.args.first + y)) c.rows.rows c.from.result c.frame_row.result (omega (arith, place, inv.size, c.rows-test.true)) (λ m less. inv.made m (omega (arith, place, less)))
          (c.frame_row.ensures ∙ ap (λ y. frame_row c.args.grid.now (c.args.first + y)) (sym place)) y (omega (arith, place, low));
    }

pub returns : goal.returns
returns c = λ y low. c.rows.invariant.made y (omega (arith, c.rows-test.false, low))
