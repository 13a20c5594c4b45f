-- Where the cell of a point is among the cells of a plane, or would be.
use Rattle.std.specs.Prelude.{◌≡◌, ℕ, suc, ◌<◌, ◌≤◌, ◌∷◌, ◌++◌, length, map, take, drop}
use Rattle.std.specs.List.{AllByRecursion}
use Rattle.std.specs.declared.cmp.Ordering.TheVariants.{Less}
use Rattle.ca_plane.specs.declared.point.Point.{Point}
use Rattle.ca_plane.specs.{Plane.Picture, Sparse.point_cmp}

-- all listed points come before this one
abbrev pub ComeBefore : Point → Picture → Type 0
ComeBefore at p = AllByRecursion (λ q. point_cmp q at ≡ Less) (map (λ e. e.0) p)

-- all listed points come after this one
abbrev pub ComeBehind : Point → Picture → Type 0
ComeBehind at p = AllByRecursion (λ q. point_cmp at q ≡ Less) (map (λ e. e.0) p)

-- no cell is at the point, and place i is the one for it
pub record IsGap (p : Picture) (at : Point) (i : ℕ) : Type 0 where
  pub in_range : i ≤ length p
  pub before : ComeBefore at (take i p)
  pub behind : ComeBehind at (drop i p)

-- the cell at place i is at the point
pub record IsAt (p : Picture) (at : Point) (i : ℕ) : Type 0 where
  pub state : ℕ
  pub in_range : i < length p
  pub listed : p ≡ take i p ++ (at, state) ∷ drop (suc i) p
