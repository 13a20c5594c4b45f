use Rattle.std.proofs.Common.{◌≡◌, ℕ, suc, ◌<◌, length}
use Rattle.ca_plane.specs.declared.counting.Counting.{Counting}
use Rattle.ca_plane.specs.Prelude.{row_cells}
use Rattle.ca_bricks.specs.Prelude.{round_cells, pair_at, counted_cell_at, sum_above, sum_beside}
use Rattle.ca_bricks.proofs.round.Round.next.Given as goal

-- the rows so far, and the sums of the two rows in sight
abbrev pub invariant-rows : goal.invariant-rows
invariant-rows g l = record {
  made : (counting : Counting) (x j : ℕ) → g.N.NextCells.goes_by l.cells counting → g.C.CountInRow.counted ≡ counting.neighbourhood → x < 64 → j < l.y
      → row_cells l.next x j ≡ counted_cell_at counting (round_cells l.self) x j;
  size : length l.next ≡ 16;
  north_above : (x : ℕ) → x < 64 → pair_at l.north.above x ≡ sum_above g.C.CountInRow.counted (λ u. round_cells l.self u l.y) x;
  here_beside : (x : ℕ) → x < 64 → pair_at l.here.beside x ≡ sum_beside (λ u. round_cells l.self u (suc l.y)) x;
  here_above : (x : ℕ) → x < 64 → pair_at l.here.above x ≡ sum_above g.C.CountInRow.counted (λ u. round_cells l.self u (suc l.y)) x;
}
