use Rattle.std.proofs.Common.{◌≡◌, ℕ, ◌<◌, ◌≤◌, slice_index}
use Rattle.ca_apgcode_search.proofs.frame_box.are_blank_from.Given as goal

-- those so far
abbrev pub invariant-rows : goal.invariant-rows
invariant-rows l = (j : ℕ) → l.first ≤ j → j < l.r → slice_index l.rows j ≡ 0
