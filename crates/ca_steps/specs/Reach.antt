-- How far live cells may lie from the origin for a step, and the box that generations can't leave (our own).
use Rattle.std.specs.Prelude.{◌≢◌, ℕ, ◌-◌, ◌<◌, ◌^◌, ℤ, pos, neg_ℤ, ◌+ℤ◌, ◌-ℤ◌, ◌≤ℤ◌, List}
use Rattle.ca_plane.specs.declared.point.Bounds.{Bounds}
use Rattle.ca_plane.specs.Prelude.{Picture, after}

-- both coordinates are from -(2^62 - 2) to 2^62 - 2: a cell from which a step is taken
abbrev pub IsInReach : ℤ → ℤ → Type 0
IsInReach x y =
    (neg_ℤ (pos (2 ^ 62 - 2)) ≤ℤ x) × (x ≤ℤ pos (2 ^ 62 - 2)) × (neg_ℤ (pos (2 ^ 62 - 2)) ≤ℤ y) × (y ≤ℤ pos (2 ^ 62 - 2))

-- after n generations some live cell lies out of reach
abbrev pub LeavesReach : (List ℕ → ℕ) → Picture → ℕ → Type 0
LeavesReach next cells n = (x : ℤ) × (y : ℤ) × (after next cells n x y ≢ 0) × (IsInReach x y → ⊥)

-- the same at some time before n generations
abbrev pub LeavesReachBefore : (List ℕ → ℕ) → Picture → ℕ → Type 0
LeavesReachBefore next cells n = (m : ℕ) × (m < n) × LeavesReach next cells m

-- the box grown by n cells on each side
abbrev pub grown_box : Bounds → ℕ → Bounds
grown_box box n = record { x0 = box.x0 -ℤ pos n; y0 = box.y0 -ℤ pos n; x1 = box.x1 +ℤ pos n; y1 = box.y1 +ℤ pos n }

-- the other box is wider and higher than the box by n cells at most
pub record IsWiderByAtMost (box other : Bounds) (n : ℕ) : Type 0 where
  pub columns : (other.x1 -ℤ other.x0) ≤ℤ ((box.x1 -ℤ box.x0) +ℤ pos n)
  pub rows : (other.y1 -ℤ other.y0) ≤ℤ ((box.y1 -ℤ box.y0) +ℤ pos n)
