use Rattle.std.proofs.Common.{◌≡◌, ℕ, ◌-◌, ◌<◌, length}
use Rattle.ca_plane.specs.Prelude.{row_cells}
use Rattle.ca_bricks.proofs.aged_step.bits_without.Given as goal

-- the rows so far
abbrev pub invariant-rows : goal.invariant-rows
invariant-rows l = record {
  size : length l.rows ≡ 16;
  made : (x j : ℕ) → x < 64 → j < l.y → row_cells l.rows x j ≡ row_cells l.a x j - row_cells l.b x j;
}
