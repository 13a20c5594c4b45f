-- The states of a block of cells: 32 rows of 32, from the top.
use Rattle.std.specs.Prelude.{◌≡◌, ℕ, ◌+◌, ◌*◌, ◌<◌, pos, ◌+ℤ◌, List, slice_index, Option, MatchOption}
use Rattle.ca_plane.specs.declared.point.Point.{Point}
use Rattle.ca_plane.specs.Prelude.{Picture, cell}
use Rattle.ca_quad.specs.declared.tree.Spot.{Spot}
use Rattle.ca_quad.specs.inner.Filled.{cells_from}

-- the state of a cell
abbrev pub block_cells : List ℕ → ℕ → ℕ → ℕ
block_cells states x y = slice_index states (32 * y + x)

-- the point is this cell of the block whose corner lies there
pub record IsCell (at : Spot) (point : Point) (x y : ℕ) : Type 0 where
  pub low_x : x < 32
  pub low_y : y < 32
  pub is_x : point.x ≡ at.x +ℤ pos x
  pub is_y : point.y ≡ at.y +ℤ pos y

-- the place tells which cell of the block the point is, and that it is none
abbrev pub TellsPlace : Spot → Point → Option ℕ → Type 0
TellsPlace at point answer = MatchOption answer ((x y : ℕ) → IsCell at point x y → ⊥) (λ n. (x : ℕ) × (y : ℕ) × IsCell at point x y × (n ≡ 32 * y + x))

-- the state was written to the point's cell
pub record IsPut (at : Spot) (point : Point) (state : ℕ) (old new : List ℕ) : Type 0 where
  pub here : (x y : ℕ) → IsCell at point x y → block_cells new x y ≡ state
  pub other : (x y : ℕ) → x < 32 → y < 32 → (IsCell at point x y → ⊥) → block_cells new x y ≡ block_cells old x y

-- the block shows the picture's cell
abbrev pub IsRight : Picture → Spot → List ℕ → ℕ → ℕ → Type 0
IsRight p at states x y = block_cells states x y ≡ cells_from (cell p) at x y
