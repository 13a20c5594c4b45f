use Rattle.std.proofs.Common.{◌≡◌, ℕ, ◌+◌, ◌*◌, ◌/◌, ◌%◌, ◌<◌, [], length, slice_index, get_or}
use Rattle.ca_apgcode_search.proofs.frame.middle_rows.Given as goal

-- the rows so far
abbrev pub invariant-rows : goal.invariant-rows
invariant-rows l = record {
  size : length l.rows ≡ 48;
  made : (r : ℕ) → r < l.r → slice_index l.rows r ≡ slice_index (get_or l.bricks (4 + 3 * (r / 16)) []) (r % 16);
}
