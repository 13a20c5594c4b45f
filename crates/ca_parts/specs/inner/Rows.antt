-- The order in which the cells of a plane are listed, and where a row's cells are among them (our own).
use Rattle.std.specs.Prelude.{◌≡◌, ℕ, ◌<◌, ◌≤◌, ℤ, ◌<ℤ◌, Bool, ◌&&◌, ◌||◌, length, map, slice_index_or, ◌⊎◌}
use Rattle.std.specs.Int.Signed.{lt_z, le_z}
use Rattle.std.specs.Ordering.{int_eq}
use Rattle.std.specs.List.Sorted.{IsStrictlySortedBy}
use Rattle.ca_plane.specs.declared.point.Point.{Point}
use Rattle.ca_plane.specs.Prelude.{Picture, point_cmp}

-- the points of a picture rise, whatever the states are
abbrev pub IsRising : Picture → Type 0
IsRising p = IsStrictlySortedBy point_cmp (map (λ e. e.0) p)

-- (u, v) is read before (x, y): row by row from the top, and in a row by rising x
abbrev pub IsBefore : ℤ → ℤ → ℤ → ℤ → Type 0
IsBefore u v x y = (v <ℤ y) ⊎ ((v ≡ y) × (u <ℤ x))

-- whether the point is
abbrev pub comes_before : Point → ℤ → ℤ → Bool
comes_before at x y = lt_z at.y y || (int_eq at.y y && lt_z at.x x)

-- whether the point lies in the row, and no further east than the column
abbrev pub lies_in_row : Point → ℤ → ℤ → Bool
lies_in_row at east row = int_eq at.y row && le_z at.x east

-- the cells up to this place are read before (x, y), and those from it on aren't
pub record IsFirstFrom (p : Picture) (x y : ℤ) (place : ℕ) : Type 0 where
  pub bound : place ≤ length p
  pub before : (k : ℕ) (d : Point × ℕ) → k < place → IsBefore (slice_index_or p k d).0.x (slice_index_or p k d).0.y x y
  pub from : (k : ℕ) (d : Point × ℕ) → place ≤ k → k < length p → IsBefore (slice_index_or p k d).0.x (slice_index_or p k d).0.y x y → ⊥
