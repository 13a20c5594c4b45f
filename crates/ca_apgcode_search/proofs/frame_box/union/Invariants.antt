use Rattle.std.proofs.Common.{◌≡◌, ℕ, ◌<◌, slice_index}
use Rattle.std.specs.Int.{bit_at}
use Rattle.ca_apgcode_search.proofs.frame_box.union.Given as goal

-- the bits of the rows so far
abbrev pub invariant-rows : goal.invariant-rows
invariant-rows l = (j i : ℕ) → j < l.r → bit_at l.all i ≡ 0 → bit_at (slice_index l.rows j) i ≡ 0
