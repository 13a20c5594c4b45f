use Rattle.std.proofs.Common.{◌≡◌, ℕ, ◌+◌, ◌<◌, length}
use Rattle.ca_plane.specs.Prelude.{row_cells}
use Rattle.ca_bricks.specs.Prelude.{round_cells}
use Rattle.ca_bricks.specs.inner.Planes.{column_place}
use Rattle.ca_bricks.proofs.round.Round.rows_from.Given as goal

-- the rows so far
abbrev pub invariant-rows : goal.invariant-rows
invariant-rows l = record {
  made : (x j : ℕ) → x < 64 → j < l.y → row_cells l.rows x j ≡ round_cells l.self (column_place l.column + x) (l.top + j);
  size : length l.rows ≡ 16;
}
