-- Squares with a ring of empty cells round them, a quarter of the larger side wide.
use Rattle.std.specs.Prelude.{◌≡◌, ℕ, suc, ◌+◌, ◌-◌, ◌<◌, ◌≤◌, ◌^◌, ◌⊎◌, List, Option, MatchOption}
use Rattle.ca_quad.specs.declared.node.Node.{Node}
use Rattle.ca_quad.specs.{Squares.IsOf, Squares.joined_cells, Squares.cell_of, Trees.IsEmpty}

-- every cell of the square is 0
abbrev pub IsEmptySquare : List Node → ℕ → Type 0
IsEmptySquare nodes id = (level : ℕ) → IsOf nodes id level → IsEmpty (cell_of nodes level id)

-- no live cell
abbrev pub no_cells : ℕ → ℕ → ℕ
no_cells x y = 0

-- four squares of this side, and a ring round them that is as wide
abbrev pub with_ring : ℕ → (ℕ → ℕ → ℕ) → (ℕ → ℕ → ℕ) → (ℕ → ℕ → ℕ) → (ℕ → ℕ → ℕ) → ℕ → ℕ → ℕ
with_ring side nw ne sw se =
    joined_cells (side + side) (joined_cells side no_cells no_cells no_cells nw) (joined_cells side no_cells no_cells ne no_cells) (joined_cells side no_cells sw no_cells no_cells) (joined_cells side se no_cells no_cells no_cells)

-- it is before the middle, or after it
abbrev pub IsOut : ℕ → ℕ → Type 0
IsOut side n = (n < side) ⊎ (side + side + side ≤ n)

-- the larger cells are the smaller ones, and 0 in a ring round them
pub record IsRinged (side : ℕ) (small big : ℕ → ℕ → ℕ) : Type 0 where
  pub inside : (x y : ℕ) → x < side + side → y < side + side → big (side + x) (side + y) ≡ small x y
  pub ring : (x y : ℕ) → IsOut side x ⊎ IsOut side y → big x y ≡ 0

-- the larger square is the smaller one, of this level in its list of nodes, with a ring round it
pub record Rings (smaller larger : List Node) (level small big : ℕ) : Type 0 where
  pub is_square : IsOf larger big (suc level)
  pub is_ringed : IsRinged (2 ^ (level - 1)) (cell_of smaller level small) (cell_of larger (suc level) big)

-- the square of this level is the middle of larger cells, which are 0 in a ring round it
pub record IsMiddleSquare (nodes : List Node) (level : ℕ) (big : ℕ → ℕ → ℕ) (small : ℕ) : Type 0 where
  pub is_square : IsOf nodes small level
  pub is_ringed : IsRinged (2 ^ (level - 1)) (cell_of nodes level small) big

-- no cells of half the side have a ring round them that makes these
abbrev pub HasNoRing : ℕ → (ℕ → ℕ → ℕ) → Type 0
HasNoRing level big = (small : ℕ → ℕ → ℕ) → IsRinged (2 ^ (level - 1)) small big → ⊥

-- it tells the middle, and none where there are live cells round it
abbrev pub TellsMiddle : List Node → ℕ → (ℕ → ℕ → ℕ) → Option ℕ → Type 0
TellsMiddle nodes level big answer = MatchOption answer (HasNoRing level big) (IsMiddleSquare nodes level big)
