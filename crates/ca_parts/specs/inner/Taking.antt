-- Cells that are taken from those of a plane, one after another (our own). A cell that was taken stays listed, with the state 0.
use Rattle.std.specs.Prelude.{◌≡◌, ◌≢◌, ℕ, ◌+◌, ◌<◌, ◌≤◌, ◌^◌, ℤ, pos, neg_ℤ, ◌≤ℤ◌, [], ◌∷◌, ◌++◌, length, map, slice_index_or, slice_set, ◌⊎◌}
use Rattle.std.specs.List.{All, Contains, sum_by}
use Rattle.ca_plane.specs.declared.point.Point.{Point}
use Rattle.ca_plane.specs.Prelude.{Picture, cell, IsWithin}
use Rattle.ca_parts.specs.{Parts.AreFurther, Components.IsUndivided, Components.BeginsBefore}

-- this cell, at its place, is taken where it isn't 0, and put behind those that were taken before
abbrev pub TakesCell : ℕ → (left taken left' taken' : Picture) → Point × ℕ → Type 0
TakesCell place left taken left' taken' e =
    ((e.1 ≡ 0) × (left' ≡ left) × (taken' ≡ taken))
    ⊎ ((e.1 ≢ 0) × (left' ≡ slice_set left place (e.0, 0)) × (taken' ≡ taken ++ e ∷ []))

-- a cell of the area was live, with its state, and isn't left
pub record WasTaken (Area : ℤ → ℤ → Type 0) (left left' : Picture) (e : Point × ℕ) : Type 0 where
  pub area : Area e.0.x e.0.y
  pub state : cell left e.0.x e.0.y ≡ e.1
  pub live : e.1 ≢ 0
  pub gone : cell left' e.0.x e.0.y ≡ 0

-- cells of the area, and no others, are taken and put behind those that were taken before
pub record Takes (Area : ℤ → ℤ → Type 0) (left taken left' taken' : Picture) : Type 0 where
  pub places : map (λ e. e.0) left' ≡ map (λ e. e.0) left
  pub more : Picture
  pub grown : taken' ≡ taken ++ more
  pub from : All (WasTaken Area left left') more
  pub rest : (x y : ℤ) → (cell left' x y ≡ cell left x y) ⊎ ((cell left' x y ≡ 0) × Contains more (record { y = y; x = x }, cell left x y))
  pub fewer : sum_by (λ e. e.1) left' + length taken' ≤ sum_by (λ e. e.1) left + length taken

-- all live cells of the area are taken, and no others
pub record TakesAll (Area : ℤ → ℤ → Type 0) (left taken left' taken' : Picture) : Type 0 where
  pub takes : Takes Area left taken left' taken'
  pub none : (x y : ℤ) → Area x y → cell left' x y ≡ 0

-- a place of a row from one column to another
abbrev pub IsInStretch : ℤ → ℤ → ℤ → ℤ → ℤ → Type 0
IsInStretch west east row x y = (west ≤ℤ x) × (x ≤ℤ east) × (y ≡ row)

-- the places within reach of a point
abbrev pub IsNear : ℕ → Point → ℤ → ℤ → Type 0
IsNear reach at x y = IsWithin reach at.x at.y x y

-- whatever is live at the point, and spreads by steps of this reach over the cells that are live in f, is live at (x, y)
abbrev pub IsChained : ℕ → (ℤ → ℤ → ℕ) → Point → ℤ → ℤ → Type 0
IsChained reach f at x y =
    (g : ℤ → ℤ → ℕ) → g at.x at.y ≢ 0
    → ((a b u v : ℤ) → g a b ≢ 0 → f u v ≢ 0 → IsWithin reach a b u v → g u v ≢ 0)
    → g x y ≢ 0

-- the cell at the point is taken, with what is reached from there
pub record TakesReached (reach : ℕ) (at : Point) (left left' taken : Picture) : Type 0 where
  pub takes : Takes (IsChained reach (cell left) at) left [] left' taken
  pub start : cell left' at.x at.y ≡ 0
  pub spread : (k : ℕ) (d : Point × ℕ) → k < length taken → (u v : ℤ) → IsNear reach (slice_index_or taken k d).0 u v → cell left' u v ≡ 0

-- the picture is a part of the cells that were left, with the cell at the point, and those that are left now are the others: the part can't be
-- divided, and keeps apart from the others, which come after one of its cells
pub record TakesPart (reach : ℕ) (at : Point) (left left' part : Picture) : Type 0 where
  pub places : map (λ e. e.0) left' ≡ map (λ e. e.0) left
  pub shared : (x y : ℤ) → ((cell part x y ≡ 0) × (cell left' x y ≡ cell left x y)) ⊎ ((cell part x y ≡ cell left x y) × (cell left' x y ≡ 0))
  pub undivided : IsUndivided (AreFurther reach) (cell part)
  pub apart : AreFurther reach (cell part) (cell left')
  pub order : BeginsBefore part left'
  pub start : cell left' at.x at.y ≡ 0

-- all cells before this place are 0
abbrev pub IsDarkBefore : Picture → ℕ → Type 0
IsDarkBefore p place = (k : ℕ) (d : Point × ℕ) → k < place → (slice_index_or p k d).1 ≡ 0

-- the cell at a place is at the point, and live
abbrev pub IsLiveAt : Point → Point × ℕ → Type 0
IsLiveAt at e = (e.0 ≡ at) × (e.1 ≢ 0)

-- a coordinate of at most 2^64
abbrev pub IsInRoom : ℤ → Type 0
IsInRoom n = (neg_ℤ (pos (2 ^ 64)) ≤ℤ n) × (n ≤ℤ pos (2 ^ 64))
