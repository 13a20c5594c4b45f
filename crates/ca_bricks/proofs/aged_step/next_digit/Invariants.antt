use Rattle.std.proofs.Common.{◌≡◌, ℕ, ◌+◌, ◌%◌, ◌<◌, min, max, length, if◌then◌else◌}
use Rattle.ca_plane.specs.Prelude.{row_cells}
use Rattle.ca_bricks.proofs.aged_step.next_digit.Given as goal

-- the rows so far
abbrev pub invariant-rows : goal.invariant-rows
invariant-rows l = record {
  size : length l.rows ≡ 16;
  made : (x j : ℕ) → x < 64 → j < l.y → row_cells l.rows x j
      ≡ max ((row_cells l.digit x j + row_cells l.borrowed x j) % 2) (min (row_cells l.begun x j) (if l.first then 1 else 0));
}
