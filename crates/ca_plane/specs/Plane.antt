-- Pictures of the unbounded plane, and the cells that they show (Golly Help, "Introduction": the universe is unbounded).
use Rattle.std.specs.Prelude.{◌≡◌, ◌≢◌, ℕ, ◌≤◌, ℤ, ◌+ℤ◌, List, [], ◌∷◌, map, ◌&&◌, if◌then◌else◌}
use Rattle.std.specs.List.{All}
use Rattle.std.specs.Ordering.{int_eq}
use Rattle.ca_plane.specs.declared.point.Point.{Point}

-- a finite list of points with their states
abbrev pub Picture : Type 0
Picture = List (Point × ℕ)

-- each state of a picture is from 1 to 255; 0 is the state of every cell that it doesn't list
abbrev pub IsPicture : Picture → Type 0
IsPicture p = All (λ e. (1 ≤ e.1) × (e.1 ≤ 255)) p

-- the state at (x, y): that of the first point there, and 0 where there is none
abbrev pub cell : Picture → ℤ → ℤ → ℕ
cell [] x y = 0
cell (e ∷ es) x y = if int_eq y e.0.y && int_eq x e.0.x then e.1 else cell es x y

-- two pictures show the same cell at every x and y
abbrev pub IsSame : Picture → Picture → Type 0
IsSame p q = (x y : ℤ) → cell p x y ≡ cell q x y

-- the picture moved by (dx, dy)
abbrev pub shifted : Picture → ℤ → ℤ → Picture
shifted p dx dy = map (λ e. (record { y = e.0.y +ℤ dy; x = e.0.x +ℤ dx }, e.1)) p

-- some cell isn't 0
abbrev pub IsLive : Picture → Type 0
IsLive p = (x : ℤ) × (y : ℤ) × (cell p x y ≢ 0)
