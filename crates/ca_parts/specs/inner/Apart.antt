-- Live cells that are more than 2 from those of a plane that is moved (our own).
use Rattle.std.specs.Prelude.{◌≢◌, ◌^◌, ℤ, pos, neg_ℤ, ◌+ℤ◌, ◌-ℤ◌, ◌≤ℤ◌}
use Rattle.ca_plane.specs.declared.point.Bounds.{Bounds}
use Rattle.ca_parts.specs.declared.apart.Way.{Way}
use Rattle.ca_plane.specs.Prelude.{Picture, cell, IsWithin, IsInBox}

-- no live cell of p, moved by (dx, dy), lies within 2 of a live cell of q
abbrev pub AreFurtherWhenMoved : Picture → ℤ → ℤ → Picture → Type 0
AreFurtherWhenMoved p dx dy q = (x y u v : ℤ) → cell p x y ≢ 0 → cell q u v ≢ 0 → IsWithin 2 (x +ℤ dx) (y +ℤ dy) u v → ⊥

-- some cell is live within 2 of (x, y)
abbrev pub IsNearLive : Picture → ℤ → ℤ → Type 0
IsNearLive p x y = (u : ℤ) × (v : ℤ) × (cell p u v ≢ 0) × IsWithin 2 x y u v

-- no place of the first box, moved by (dx, dy), lies within 2 of one of the other
abbrev pub AreFarBoxes : Bounds → ℤ → ℤ → Bounds → Type 0
AreFarBoxes one dx dy other = (x y u v : ℤ) → IsInBox one x y → IsInBox other u v → IsWithin 2 (x +ℤ dx) (y +ℤ dy) u v → ⊥

-- no coordinate of the first stretch, moved by the way, lies within 2 of one of the other
abbrev pub AreFarStretches : ℤ → ℤ → ℤ → ℤ → ℤ → Type 0
AreFarStretches low high way other_low other_high = (a b : ℤ) → low ≤ℤ a → a ≤ℤ high → other_low ≤ℤ b → b ≤ℤ other_high → ((a +ℤ way) -ℤ pos 2) ≤ℤ b → b ≤ℤ ((a +ℤ way) +ℤ pos 2) → ⊥

-- a distance of at most 2^64
abbrev pub IsShort : ℤ → Type 0
IsShort d = (neg_ℤ (pos (2 ^ 64)) ≤ℤ d) × (d ≤ℤ pos (2 ^ 64))

-- a way that is at most so long, across and down
abbrev pub IsShortWay : Way → Type 0
IsShortWay way = IsShort way.dx × IsShort way.dy
