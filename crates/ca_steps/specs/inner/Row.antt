-- One row of a window: three cells side by side, and the cells that come after them (our own).
use Rattle.std.specs.Prelude.{◌≡◌, ◌≢◌, ℤ, pos, ◌+ℤ◌, ◌-ℤ◌, ◌⊎◌}
use Rattle.ca_plane.specs.declared.point.Point.{Point}
use Rattle.ca_plane.specs.Prelude.{Picture, cell}
use Rattle.ca_steps.specs.declared.row.Row.{Row}
use Rattle.ca_steps.specs.inner.CellsAhead.{IsWithout, AreCellsAhead}

-- the row shows p round (x, y), and what comes after
pub record ShowsRow (p : Picture) (row : Row) (x y : ℤ) : Type 0 where
  pub west : row.west ≡ cell p (x -ℤ pos 1) y
  pub centre : row.centre ≡ cell p x y
  pub east : row.east ≡ cell p (x +ℤ pos 1) y
  pub ahead : AreCellsAhead p row.ahead (x +ℤ pos 1) y

-- the two cells that stay in sight one place further on are 0
abbrev pub IsQuietRow : Row → Type 0
IsQuietRow row = (row.centre ≡ 0) × (row.east ≡ 0)

-- one of them is live
abbrev pub IsLiveRow : Row → Type 0
IsLiveRow row = (row.centre ≢ 0) ⊎ (row.east ≢ 0)

-- new is old, moved on by one column, with the cell at the point in the east
pub record MovesOn (old new : Row) (at : Point) : Type 0 where
  pub west : new.west ≡ old.centre
  pub centre : new.centre ≡ old.east
  pub east : new.east ≡ cell old.ahead at.x at.y
  pub ahead : IsWithout old.ahead new.ahead at
