use Rattle.std.proofs.Common.{◌≡◌, ℕ, ◌<◌, length, slice_index}
use Rattle.std.specs.Int.{bit_at}
use Rattle.ca_bricks.specs.Prelude.{told_state}
use Rattle.ca_bricks.proofs.aged_cells.states_of.Given as goal

-- the states so far
abbrev pub invariant-cells : goal.invariant-cells
invariant-cells l = record {
  size : length l.cells ≡ 64;
  made : (i : ℕ) → i < l.place → slice_index l.cells i ≡ told_state l.greatest (bit_at l.live i) (slice_index l.numbers i);
}
