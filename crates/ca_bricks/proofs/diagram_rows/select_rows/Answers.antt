use Rattle.std.proofs.Common.{ℕ, ◌∙◌, arith, ◌==◌, if◌then◌else◌}
use Rattle.std.proofs.lemmas.List.{length-set}
use Rattle.ca_plane.specs.Prelude.{row_cells}
use Rattle.ca_bricks.proofs.BrickRows.{rows_grow}
use Rattle.ca_bricks.proofs.diagram_rows.select_rows.Goals as goal

pub rows-preserved : goal.rows-preserved
rows-preserved c =
    let f = λ (x j : ℕ). if row_cells c.args.which.now x j == 0 then row_cells c.args.dead.now x j else row_cells c.args.live.now x j in
    record {
      made = rows_grow f c.rows.rows c.rows.y c.select_bits.result (omega (arith, c.rows.invariant.size, c.rows-test.true)) c.rows.invariant.made (λ x h. c.select_bits.ensures x);
      size = length-set c.rows.rows c.rows.y c.select_bits.result ∙ c.rows.invariant.size;
    }

pub returns : goal.returns
returns c = λ x y h k. c.rows.invariant.made x y h (omega (arith, c.rows-test.false, k))
