use Rattle.std.proofs.Common.{ℕ, ◌+◌, ◌*◌}
use Rattle.std.specs.Prelude.{ℤ}
use Rattle.ca_bricks.specs.Prelude.{GridShows}
use Rattle.ca_bricks.proofs.Grids.{IsDeadThere}
use Rattle.ca_bricks.proofs.grid.BrickGrid.is_row_blank.Given as goal

-- the bricks so far are blank
abbrev pub invariant-bricks : goal.invariant-bricks
invariant-bricks l = (m : ℕ) (p : ℤ → ℤ → ℕ) → GridShows l.fn.self m p → IsDeadThere p l.fn.self.x l.fn.self.y (64 * l.fn.columns.0) (64 * l.column) (16 * l.fn.row) (16 * l.fn.row + 16)
