-- What the planes of one period show after any number of generations (our own).
use Rattle.std.specs.Prelude.{◌≡◌, ◌≢◌, ℕ, ◌*◌, ◌/◌, ◌%◌, ◌<◌, ◌≤◌, ℤ, pos, ◌*ℤ◌, ◌-ℤ◌, List, [], length, slice_index_or, Option, Some, None}
use Rattle.ca_plane.specs.declared.point.Bounds.{Bounds}
use Rattle.ca_plane.specs.Prelude.{Picture, cell, shifted, IsInBox, IsInPlane}
use Rattle.ca_parts.specs.declared.apart.Way.{Way}
use Rattle.ca_parts.specs.Phases.{Course, plane_at}

-- both periods end after n generations, and both pictures have gone the same way by then
pub record ClosesRound (one other : Course) (n : ℕ) : Type 0 where
  pub turns : ℕ
  pub others : ℕ
  pub first : n ≡ turns * length one.planes
  pub second : n ≡ others * length other.planes
  pub across : pos turns *ℤ one.dx ≡ pos others *ℤ other.dx
  pub down : pos turns *ℤ one.dy ≡ pos others *ℤ other.dy

-- a box in the square of a plane
pub record IsNearBox (box : Bounds) : Type 0 where
  pub low : IsInPlane (record { y = box.y0; x = box.x0 })
  pub high : IsInPlane (record { y = box.y1; x = box.x1 })

-- the box holds all live cells of the planes before this number
abbrev pub HoldsBefore : List Picture → ℕ → Bounds → Type 0
HoldsBefore planes n box = (k : ℕ) → k < n → (x y : ℤ) → cell (plane_at planes k) x y ≢ 0 → IsInBox box x y

-- the place is in the box; in none there is no place
abbrev pub IsInSweep : Option Bounds → ℤ → ℤ → Type 0
IsInSweep (Some box) x y = IsInBox box x y
IsInSweep None x y = ⊥

-- the same of a box that may be none
abbrev pub SweepsBefore : List Picture → ℕ → Option Bounds → Type 0
SweepsBefore planes n sweep = (k : ℕ) → k < n → (x y : ℤ) → cell (plane_at planes k) x y ≢ 0 → IsInSweep sweep x y

-- the way between the two parts after n generations
pub record IsWayBetween (one other : Course) (n : ℕ) (way : Way) : Type 0 where
  pub across : way.dx ≡ (pos (n / length one.planes) *ℤ one.dx) -ℤ (pos (n / length other.planes) *ℤ other.dx)
  pub down : way.dy ≡ (pos (n / length one.planes) *ℤ one.dy) -ℤ (pos (n / length other.planes) *ℤ other.dy)
