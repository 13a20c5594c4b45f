use Rattle.std.proofs.Common.{◌≡◌, ℕ, ℤ, ◌⊎◌, drop}
use Rattle.ca_plane.specs.Prelude.{cell}
use Rattle.ca_quad.specs.inner.Drawn.{AreReady, IsLiveInRow}
use Rattle.ca_quad.proofs.store.Store.draw_row.Given as goal

-- the row is written, but for cells of squares that are still to come
abbrev pub invariant-squares : goal.invariant-squares
invariant-squares l = (all : ℤ → ℤ → ℕ) → AreReady l.self all 1 l.squares →
    ((x y : ℤ) → cell l.initial.plane x y ≡ all x y → cell l.plane x y ≡ all x y)
    × ((x y : ℤ) → IsLiveInRow l.self l.row l.squares x y → (cell l.plane x y ≡ all x y) ⊎ IsLiveInRow l.self l.row (drop l.square-index l.squares) x y)
