-- Boxes of which each side is touched by what is live (our own).
use Rattle.std.specs.Prelude.{◌≡◌, ◌≢◌, ℕ, ◌<◌, ℤ, List, Option, Some, ◌⊎◌}
use Rattle.ca_plane.specs.declared.point.Bounds.{Bounds}
use Rattle.ca_plane.specs.Prelude.{Picture, cell}
use Rattle.ca_parts.specs.Phases.{plane_at}

-- some plane of the first n is live there
abbrev pub IsLiveIn : List Picture → ℕ → ℤ → ℤ → Type 0
IsLiveIn planes n x y = (k : ℕ) × (k < n) × (cell (plane_at planes k) x y ≢ 0)

-- a live cell of the first n planes lies on each side of the box
pub record TouchesEach (planes : List Picture) (n : ℕ) (box : Bounds) : Type 0 where
  pub left : (y : ℤ) × IsLiveIn planes n box.x0 y
  pub right : (y : ℤ) × IsLiveIn planes n box.x1 y
  pub top : (x : ℤ) × IsLiveIn planes n x box.y0
  pub bottom : (x : ℤ) × IsLiveIn planes n x box.y1

-- each side of the box is one of the other box, where there is one, or a live cell of the picture lies on it
pub record HasSidesOf (old : Option Bounds) (p : Picture) (box : Bounds) : Type 0 where
  pub left : ((b : Bounds) × (old ≡ Some b) × (box.x0 ≡ b.x0)) ⊎ ((y : ℤ) × (cell p box.x0 y ≢ 0))
  pub right : ((b : Bounds) × (old ≡ Some b) × (box.x1 ≡ b.x1)) ⊎ ((y : ℤ) × (cell p box.x1 y ≢ 0))
  pub top : ((b : Bounds) × (old ≡ Some b) × (box.y0 ≡ b.y0)) ⊎ ((x : ℤ) × (cell p x box.y0 ≢ 0))
  pub bottom : ((b : Bounds) × (old ≡ Some b) × (box.y1 ≡ b.y1)) ⊎ ((x : ℤ) × (cell p x box.y1 ≢ 0))
