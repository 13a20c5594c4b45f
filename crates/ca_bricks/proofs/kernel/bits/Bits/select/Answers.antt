use Rattle.std.proofs.Common.{slice_index}
use Rattle.std.proofs.lemmas.Nat.Bits.{bit_at-lt}
use Rattle.ca_plane.specs.Prelude.{row_cells}
use Rattle.ca_bricks.proofs.BrickBits.{selected}
use Rattle.ca_bricks.proofs.kernel.bits.Bits.select.Goals as goal

pub returns : goal.returns
returns c = λ x y.
    selected (row_cells c.args.self.rows x y) (row_cells c.args.live.rows x y) (row_cells c.args.dead.rows x y) _ _ _
    (bit_at-lt (slice_index c.args.self.rows y) x) (bit_at-lt (slice_index c.args.live.rows y) x) (bit_at-lt (slice_index c.args.dead.rows y) x)
    (c.xor.ensures x y) (c.and.ensures x y) (c.xor-2.ensures x y)
