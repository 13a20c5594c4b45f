use Rattle.std.proofs.Common.{◌-◌, ◌∙◌, arith}
use Rattle.std.proofs.lemmas.List.{length-set}
use Rattle.ca_plane.specs.Prelude.{row_cells}
use Rattle.ca_bricks.proofs.BrickRows.{rows_grow}
use Rattle.ca_bricks.proofs.aged_step.bits_without.Goals as goal

pub rows-preserved : goal.rows-preserved
rows-preserved c =
    let inv = c.rows.invariant in
    let word = c.and_not.result in
    record {
      size = length-set c.rows.rows c.rows.y word ∙ inv.size;
      made = rows_grow (λ x y. row_cells c.args.a.now x y - row_cells c.args.b.now x y) c.rows.rows c.rows.y word (omega (arith, inv.size, c.rows-test.true)) inv.made (λ x h. c.and_not.ensures x);
    }

pub returns : goal.returns
returns c = λ x y h k. c.rows.invariant.made x y h (omega (arith, c.rows-test.false, k))
