use Rattle.std.proofs.Common.{max, ◌∙◌, arith, slice_index}
use Rattle.std.proofs.lemmas.List.{length-set}
use Rattle.std.proofs.lemmas.Nat.Bits.{bit_at_or}
use Rattle.ca_plane.specs.Prelude.{row_cells}
use Rattle.ca_bricks.proofs.BrickRows.{rows_grow}
use Rattle.ca_bricks.proofs.aged_step.bits_of_both.Goals as goal

pub rows-preserved : goal.rows-preserved
rows-preserved c =
    let inv = c.rows.invariant in
    let y = c.rows.y in
    record {
      size = length-set c.rows.rows y _ ∙ inv.size;
      made = rows_grow (λ x y. max (row_cells c.args.a.now x y) (row_cells c.args.b.now x y)) c.rows.rows y _ (omega (arith, inv.size, c.rows-test.true)) inv.made
          (λ x h. bit_at_or (slice_index c.args.a.now y) (slice_index c.args.b.now y) x);
    }

pub returns : goal.returns
returns c = λ x y h k. c.rows.invariant.made x y h (omega (arith, c.rows-test.false, k))
