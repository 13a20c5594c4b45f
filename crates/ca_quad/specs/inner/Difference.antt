-- Where two squares differ.
use Rattle.std.specs.Prelude.{◌≡◌, ◌≢◌, ℕ, suc, ◌<◌, ◌≤◌, ◌^◌, List, slice_index, Option, MatchOption}
use Rattle.ca_quad.specs.declared.node.Node.{Node}
use Rattle.ca_quad.specs.{Squares.one_cell, Squares.joined_cells, Squares.cell_of, inner.Window.ShowsFrom}

-- the cells differ at this place of the square, counted from its upper left corner
pub record DifferInSquare (side : ℕ) (p q : ℕ → ℕ → ℕ) (at : ℕ × ℕ) : Type 0 where
  pub x_in : at.0 < side
  pub y_in : at.1 < side
  pub differ : p at.0 at.1 ≢ q at.0 at.1

-- all their cells are equal
abbrev pub AreEqual : (ℕ → ℕ → ℕ) → (ℕ → ℕ → ℕ) → Type 0
AreEqual p q = (x y : ℕ) → p x y ≡ q x y

-- it tells a place where they differ, and none where they are equal
abbrev pub TellsDifference : ℕ → (ℕ → ℕ → ℕ) → (ℕ → ℕ → ℕ) → Option (ℕ × ℕ) → Type 0
TellsDifference side p q answer = MatchOption answer (AreEqual p q) (DifferInSquare side p q)

-- the cells of a 2 by 2 square, from its four states
abbrev pub four_cells : List ℕ → ℕ → ℕ → ℕ
four_cells cells = joined_cells 1 (one_cell (slice_index cells 0)) (one_cell (slice_index cells 1)) (one_cell (slice_index cells 2)) (one_cell (slice_index cells 3))

-- two quarters of the squares a and b that aren't one, and their place in these
pub record AreUnequal (nodes : List Node) (level a b p q left top : ℕ) : Type 0 where
  pub unequal : p ≢ q
  pub x_low : left ≤ 2 ^ level
  pub y_low : top ≤ 2 ^ level
  pub first : ShowsFrom nodes p level (cell_of nodes (suc level) a) left top
  pub second : ShowsFrom nodes q level (cell_of nodes (suc level) b) left top

-- it tells two unequal quarters, and none where all cells are equal
abbrev pub TellsQuarters : List Node → ℕ → ℕ → ℕ → Option (ℕ × ℕ × ℕ × ℕ) → Type 0
TellsQuarters nodes level a b answer =
    MatchOption answer (AreEqual (cell_of nodes (suc level) a) (cell_of nodes (suc level) b)) (λ r. AreUnequal nodes level a b r.0 r.1 r.2 r.3)
