-- Which squares a copy of a tree adds to a store.
use Rattle.std.specs.Prelude.{◌≡◌, ℕ, ◌<◌, ◌≤◌, ◌⊎◌, List, Some, length}
use Rattle.ca_quad.specs.declared.{node.Node.Node, square.Square.Square}
use Rattle.ca_quad.specs.declared.square.Square.TheVariants.{Four, Parts}
use Rattle.ca_quad.specs.{Squares.place_id, Squares.square_of, Squares.IsParted, Squares.level_of, Squares.cell_of, SquareValues.square_value, Trees.ShowsSquare}

-- the id is one of the square's four parts
abbrev pub IsPartOf : Square → ℕ → Type 0
IsPartOf (Four nw ne sw se) id = ⊥
IsPartOf (Parts level nw ne sw se) id = (id ≡ nw) ⊎ ((id ≡ ne) ⊎ ((id ≡ sw) ⊎ (id ≡ se)))

-- one square is a part of the other, and has parts itself
abbrev pub IsPartedPart : List Node → ℕ → ℕ → Type 0
IsPartedPart nodes whole part = IsPartOf (square_of nodes whole) part × IsParted (square_of nodes part)

-- the square is the root itself, or lies in one of its parts
pub data LiesIn (nodes : List Node) : ℕ → ℕ → Type 0 where
  itself : (root : ℕ) → LiesIn nodes root root
  in_part : (root part id : ℕ) → IsPartOf (square_of nodes root) part → LiesIn nodes part id → LiesIn nodes root id

-- the copy has the level and the cells of the square
abbrev pub IsCopy : List Node → List Node → ℕ → ℕ → Type 0
IsCopy from nodes id copy = ShowsSquare nodes copy (level_of from id) (cell_of from (level_of from id) id)

-- each square's value is its copy
abbrev pub AreCopies : List Node → List Node → List (ℕ × ℕ) → Type 0
AreCopies from nodes values = (id copy : ℕ) → square_value values id ≡ Some copy → IsCopy from nodes id copy

-- each square that is added is the copy of one that lies in the root
abbrev pub AddsCopies : List Node → ℕ → List Node → List Node → Type 0
AddsCopies from root old new = (place : ℕ) → length old ≤ place → place < length new → (id : ℕ) × (LiesIn from root id × IsCopy from new id (place_id place))
