use Rattle.std.proofs.Common.{◌≡◌, ℕ, ◌+◌, ◌<◌, length, slice_index}
use Rattle.ca_apgcode_search.specs.inner.Frames.{frame_row}
use Rattle.ca_apgcode_search.proofs.frame.brick_rows.Given as goal

-- the rows so far
abbrev pub invariant-rows : goal.invariant-rows
invariant-rows l = record {
  size : length l.rows ≡ 16;
  made : (y : ℕ) → y < l.y → slice_index l.rows y ≡ frame_row l.grid (l.first + y);
}
