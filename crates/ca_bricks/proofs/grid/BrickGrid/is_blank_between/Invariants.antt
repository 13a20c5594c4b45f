use Rattle.std.proofs.Common.{ℕ, ◌*◌, ◌/◌}
use Rattle.std.specs.Prelude.{ℤ}
use Rattle.ca_bricks.specs.Prelude.{GridShows}
use Rattle.ca_bricks.proofs.Grids.{IsDeadThere}
use Rattle.ca_bricks.proofs.grid.BrickGrid.is_blank_between.Given as goal

-- the rows so far are blank
abbrev pub invariant-rows : goal.invariant-rows
invariant-rows l = (m : ℕ) (p : ℤ → ℤ → ℕ) → GridShows l.fn.self m p → IsDeadThere p l.fn.self.x l.fn.self.y (64 * l.columns.0) (64 * l.columns.1) (16 * (l.fn.j.0 / 2)) (16 * l.row)
