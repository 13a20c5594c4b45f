use Rattle.std.proofs.Common.{◌≡◌, ℕ, ◌<◌, slice_index}
use Rattle.std.specs.Int.{bit_at}
use Rattle.ca_bricks.proofs.step.changed_bits.Given as goal

-- the rows so far
abbrev pub invariant-rows : goal.invariant-rows
invariant-rows l = (x j : ℕ) → j < l.y → bit_at l.all x ≡ 0 → bit_at (slice_index l.new j) x ≡ bit_at (slice_index l.old j) x
