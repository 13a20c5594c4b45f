-- The order in which a plane is read: row by row from the top, and in a row by rising x (our own).
use Rattle.std.specs.Prelude.{◌≡◌, ℤ, ◌<ℤ◌, Option, Some, None, ◌⊎◌}
use Rattle.ca_plane.specs.declared.point.Point.{Point}
use Rattle.ca_plane.specs.Prelude.{Picture, cell}

-- (u, v) is read before (x, y)
abbrev pub IsBefore : ℤ → ℤ → ℤ → ℤ → Type 0
IsBefore u v x y = (v <ℤ y) ⊎ ((v ≡ y) × (u <ℤ x))

-- the picture shows no live cell before (x, y)
abbrev pub NoneBefore : Picture → ℤ → ℤ → Type 0
NoneBefore p x y = (u v : ℤ) → IsBefore u v x y → cell p u v ≡ 0

-- the point is the first of the places at which P holds
pub record IsFirstPlace (P : ℤ → ℤ → Type 0) (at : Point) : Type 0 where
  pub here : P at.x at.y
  pub first : (x y : ℤ) → P x y → IsBefore x y at.x at.y → ⊥

-- that point, or none where P holds at no place
abbrev pub IsFirstOrNone : (ℤ → ℤ → Type 0) → Option Point → Type 0
IsFirstOrNone P None = (x y : ℤ) → P x y → ⊥
IsFirstOrNone P (Some at) = IsFirstPlace P at

-- the second point, if there is one, isn't read before the first
abbrev pub IsUpTo : Option Point → Option Point → Type 0
IsUpTo first None = Unit {0}
IsUpTo None (Some q) = ⊥
IsUpTo (Some p) (Some q) = IsBefore q.x q.y p.x p.y → ⊥

-- the earlier of two points, or the one that there is
pub record IsEarlier (a b first : Option Point) : Type 0 where
  pub which : (first ≡ a) ⊎ (first ≡ b)
  pub left : IsUpTo first a
  pub right : IsUpTo first b
