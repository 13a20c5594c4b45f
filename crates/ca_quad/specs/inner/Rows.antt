-- Cells of a picture by their places in its list, row by row.
use Rattle.std.specs.Prelude.{◌≡◌, ℕ, ◌<◌, ◌≤◌, ◌⊎◌, ℤ, pos, ◌+ℤ◌, ◌<ℤ◌, ◌≤ℤ◌, List, [], ◌∷◌, length, slice_index_or}
use Rattle.std.specs.List.{All}
use Rattle.ca_plane.specs.declared.point.Point.{Point}
use Rattle.ca_plane.specs.Prelude.{Picture}
use Rattle.ca_quad.specs.declared.{store.quarters.Quarters.Quarters, store.rows.Row.Row, tree.Spot.Spot}

-- the point at a place of the list
abbrev pub point_at : Picture → ℕ → Point
point_at p place =
    let origin : Point = record { y = pos 0; x = pos 0 } in
    let e = slice_index_or p place (origin, 0) in
    e.0

-- row by row, the point comes before this place
abbrev pub ComesBefore : Point → Spot → Type 0
ComesBefore point at = (point.y <ℤ at.y) ⊎ ((point.y ≡ at.y) × (point.x <ℤ at.x))

-- the row has this place of the list
pub record IsInRow (row : Row) (place : ℕ) : Type 0 where
  pub from : row.first ≤ place
  pub below : place < row.end

-- the row's places are in the list, and their points have its y
pub record IsPictureRow (p : Picture) (row : Row) : Type 0 where
  pub order : row.first ≤ row.end
  pub range : row.end ≤ length p
  pub same : (i : ℕ) → IsInRow row i → (point_at p i).y ≡ row.y

-- each is a row of the picture
abbrev pub AreRows : Picture → List Row → Type 0
AreRows p rows = All (IsPictureRow p) rows

-- one of the rows has this place
abbrev pub HaveRowAt : List Row → ℕ → Type 0
HaveRowAt [] place = ⊥
HaveRowAt (row ∷ rows) place = IsInRow row place ⊎ HaveRowAt rows place

-- the rows have each cell of the picture that lies in the square of this side
pub record HoldCells (p : Picture) (rows : List Row) (side : ℕ) (at : Spot) : Type 0 where
  pub held : (i x y : ℕ) → i < length p → x < side → y < side → (point_at p i).x ≡ at.x +ℤ pos x → (point_at p i).y ≡ at.y +ℤ pos y → HaveRowAt rows i

-- the part has those cells of the rows for which this holds
pub record IsPartOfRows (p : Picture) (rows : List Row) (passes : Point → Type 0) (part : List Row) : Type 0 where
  pub are : AreRows p part
  pub held : (i : ℕ) → HaveRowAt rows i → passes (point_at p i) → HaveRowAt part i

-- x is less, or not; y is less, or not
abbrev pub IsWest : ℤ → Point → Type 0
IsWest x point = point.x <ℤ x

abbrev pub IsEast : ℤ → Point → Type 0
IsEast x point = x ≤ℤ point.x

abbrev pub IsNorth : ℤ → Point → Type 0
IsNorth y point = point.y <ℤ y

abbrev pub IsSouth : ℤ → Point → Type 0
IsSouth y point = y ≤ℤ point.y

-- those of the rows that lie round a spot
pub record AreParts (p : Picture) (rows : List Row) (at : Spot) (quarters : Quarters Row) : Type 0 where
  pub nw : IsPartOfRows p rows (λ q. IsWest at.x q × IsNorth at.y q) quarters.nw.items
  pub ne : IsPartOfRows p rows (λ q. IsEast at.x q × IsNorth at.y q) quarters.ne.items
  pub sw : IsPartOfRows p rows (λ q. IsWest at.x q × IsSouth at.y q) quarters.sw.items
  pub se : IsPartOfRows p rows (λ q. IsEast at.x q × IsSouth at.y q) quarters.se.items
