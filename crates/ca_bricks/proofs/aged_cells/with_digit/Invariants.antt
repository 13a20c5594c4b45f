use Rattle.std.proofs.Common.{◌≡◌, ℕ, ◌+◌, ◌*◌, ◌%◌, ◌<◌, length, slice_index}
use Rattle.std.specs.Int.{bit_at}
use Rattle.ca_bricks.proofs.aged_cells.with_digit.Given as goal

-- the numbers so far
abbrev pub invariant-cells : goal.invariant-cells
invariant-cells l = record {
  size : length l.longer ≡ 64;
  made : (i : ℕ) → i < l.place → slice_index l.longer i ≡ 2 * slice_index l.numbers i % 256 + bit_at l.word i;
}
