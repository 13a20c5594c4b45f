use Rattle.std.proofs.Common.{◌≡◌, ℕ, ◌<◌, slice_index}
use Rattle.ca_apgcode_search.proofs.frame_box.first_row.Given as goal

-- none so far
abbrev pub invariant-rows : goal.invariant-rows
invariant-rows l = (j : ℕ) → j < l.r → slice_index l.rows j ≡ 0
