use Rattle.std.proofs.Common.{ℕ, ◌+◌, ◌∙◌, arith}
use Rattle.std.proofs.lemmas.List.{length-set}
use Rattle.ca_bricks.specs.Prelude.{round_cells}
use Rattle.ca_bricks.specs.inner.Planes.{column_place}
use Rattle.ca_bricks.proofs.BrickRows.{rows_grow}
use Rattle.ca_bricks.proofs.round.Round.rows_from.Goals as goal

pub rows-preserved : goal.rows-preserved
rows-preserved c =
    let f = λ (x j : ℕ). round_cells c.args.self.now (column_place c.args.column + x) (c.args.top + j) in
    record {
      made = rows_grow f c.rows.rows c.rows.y c.row.result (omega (arith, c.rows.invariant.size, c.rows-test.true)) c.rows.invariant.made c.row.ensures;
      size = length-set c.rows.rows c.rows.y c.row.result ∙ c.rows.invariant.size;
    }

pub returns : goal.returns
returns c = λ x y h k. c.rows.invariant.made x y h (omega (arith, c.rows-test.false, k))
