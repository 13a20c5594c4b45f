-- A window of three by three cells that moves over a plane (our own).
use Rattle.std.specs.Prelude.{◌≡◌, ◌≢◌, ℕ, ℤ, pos, ◌+ℤ◌, ◌-ℤ◌, List, [], ◌∷◌, Option, Some, ◌⊎◌}
use Rattle.ca_plane.specs.declared.point.Point.{Point}
use Rattle.ca_plane.specs.Prelude.{Picture, cell}
use Rattle.ca_steps.specs.declared.window.MovingWindow.{MovingWindow}
use Rattle.ca_steps.specs.{inner.Order.IsFirstOrNone, inner.Row.ShowsRow, inner.Row.IsQuietRow, inner.Row.IsLiveRow, inner.Row.MovesOn}

-- the nine cells in sight, row by row: NW, N, NE, W, the centre, E, SW, S, SE
abbrev pub nine_states : MovingWindow → List ℕ
nine_states w =
    w.north.west ∷ w.north.centre ∷ w.north.east
    ∷ w.middle.west ∷ w.middle.centre ∷ w.middle.east
    ∷ w.south.west ∷ w.south.centre ∷ w.south.east ∷ []

-- the window shows p round its place, and what comes after
pub record ShowsWindow (p : Picture) (w : MovingWindow) : Type 0 where
  pub north : ShowsRow p w.north w.place.x (w.place.y -ℤ pos 1)
  pub middle : ShowsRow p w.middle w.place.x w.place.y
  pub south : ShowsRow p w.south w.place.x (w.place.y +ℤ pos 1)

-- all the cells that stay in sight one place further on are 0
pub record IsQuiet (w : MovingWindow) : Type 0 where
  pub north : IsQuietRow w.north
  pub middle : IsQuietRow w.middle
  pub south : IsQuietRow w.south

-- one of them is live
abbrev pub StaysLive : MovingWindow → Type 0
StaysLive w = (IsLiveRow w.north ⊎ IsLiveRow w.middle) ⊎ IsLiveRow w.south

-- from (x, y) a cell ahead is seen in the east
abbrev pub SeesAhead : MovingWindow → ℤ → ℤ → Type 0
SeesAhead w x y =
    ((cell w.north.ahead (x +ℤ pos 1) (y -ℤ pos 1) ≢ 0) ⊎ (cell w.middle.ahead (x +ℤ pos 1) y ≢ 0))
    ⊎ (cell w.south.ahead (x +ℤ pos 1) (y +ℤ pos 1) ≢ 0)

-- the point one to the east
abbrev pub east_of : Point → Point
east_of at = record { y = at.y; x = at.x +ℤ pos 1 }

-- one place to the east where a live cell stays in sight; else the first place from which a cell ahead is seen, if there is one
abbrev pub IsNextPlace : MovingWindow → Option Point → Type 0
IsNextPlace w next = (StaysLive w × (next ≡ Some (east_of w.place))) ⊎ (IsQuiet w × IsFirstOrNone (SeesAhead w) next)

-- new is old, moved on to the place
pub record MovesTo (old new : MovingWindow) (at : Point) : Type 0 where
  pub place : new.place ≡ at
  pub north : MovesOn old.north new.north (record { y = at.y -ℤ pos 1; x = at.x +ℤ pos 1 })
  pub middle : MovesOn old.middle new.middle (east_of at)
  pub south : MovesOn old.south new.south (record { y = at.y +ℤ pos 1; x = at.x +ℤ pos 1 })
