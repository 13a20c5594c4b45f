use Rattle.std.proofs.Common.{◌≡◌, ℕ, ◌+◌, ◌%◌, min, max, ap, ap₂, ◌∙◌, arith, slice_index, if◌then◌else◌}
use Rattle.std.specs.Prelude.{bit_and, bit_or, bit_xor}
use Rattle.std.specs.Int.{bit_at}
use Rattle.std.proofs.lemmas.List.{length-set}
use Rattle.std.proofs.lemmas.Nat.Bits.{bit_at_or, bit_at_and, bit_at_xor, bit_at-lt}
use Rattle.ca_plane.specs.Prelude.{row_cells}
use Rattle.ca_bricks.proofs.BrickRows.{rows_grow}
use Rattle.ca_bricks.proofs.aged_step.next_digit.Goals as goal

-- a bit of the sum of two, or of a third where a fourth has one
told_bit : (a b c t x f : ℕ) → bit_at t x ≡ f → bit_at (bit_or (bit_xor a b) (bit_and c t)) x ≡ max ((bit_at a x + bit_at b x) % 2) (min (bit_at c x) f)
told_bit a b c t x f e =
    let one : bit_at (bit_xor a b) x ≡ (bit_at a x + bit_at b x) % 2 = omega (arith, bit_at_xor a b x, bit_at-lt a x, bit_at-lt b x) in
    bit_at_or (bit_xor a b) (bit_and c t) x ∙ ap₂ max one (bit_at_and c t x ∙ ap (min (bit_at c x)) e)

pub rows-preserved : goal.rows-preserved
rows-preserved c =
    let inv = c.rows.invariant in
    let y = c.rows.y in
    record {
      size = length-set c.rows.rows y _ ∙ inv.size;
      made = rows_grow (λ x y. max ((row_cells c.args.digit.now x y + row_cells c.args.borrowed.now x y) % 2) (min (row_cells c.args.begun.now x y) (if c.args.first then 1 else 0)))
          c.rows.rows y _ (omega (arith, inv.size, c.rows-test.true)) inv.made
          (λ x h. told_bit (slice_index c.args.digit.now y) (slice_index c.args.borrowed.now y) (slice_index c.args.begun.now y) _ x _ (c.all_bits-told.ensures x h));
    }

pub returns : goal.returns
returns c = λ x y h k. c.rows.invariant.made x y h (omega (arith, c.rows-test.false, k))
