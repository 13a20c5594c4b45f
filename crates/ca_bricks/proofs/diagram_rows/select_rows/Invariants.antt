use Rattle.std.proofs.Common.{◌≡◌, ℕ, ◌<◌, length, ◌==◌, if◌then◌else◌}
use Rattle.ca_plane.specs.Prelude.{row_cells}
use Rattle.ca_bricks.proofs.diagram_rows.select_rows.Given as goal

-- the rows so far
abbrev pub invariant-rows : goal.invariant-rows
invariant-rows l = record {
  made : (x j : ℕ) → x < 64 → j < l.y → row_cells l.rows x j ≡ (if row_cells l.fn.which x j == 0 then row_cells l.fn.dead x j else row_cells l.fn.live x j);
  size : length l.rows ≡ 16;
}
