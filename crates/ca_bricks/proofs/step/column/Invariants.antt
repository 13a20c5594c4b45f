use Rattle.std.proofs.Common.{◌≡◌, ℕ, suc, ◌<◌, length, slice_index}
use Rattle.ca_bricks.proofs.step.column.Given as goal

-- the rows so far
abbrev pub invariant-rows : goal.invariant-rows
invariant-rows l = record {
  size : length l.column ≡ 18;
  made : (j : ℕ) → j < l.y → slice_index l.column (suc j) ≡ slice_index l.here j;
}
