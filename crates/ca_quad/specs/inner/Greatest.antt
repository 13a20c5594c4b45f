-- The greatest state of a square's cells.
use Rattle.std.specs.Prelude.{◌≡◌, ◌≢◌, ℕ, ◌≤◌, List}
use Rattle.ca_quad.specs.declared.node.Node.{Node}
use Rattle.ca_quad.specs.Squares.{IsOf, cell_of}

-- no cell's state is above it, and some cell has it, or it is 0
pub record IsGreatest (cells : ℕ → ℕ → ℕ) (state : ℕ) : Type 0 where
  pub most : (x y : ℕ) → cells x y ≤ state
  pub shown : state ≢ 0 → (x : ℕ) × (y : ℕ) × (cells x y ≡ state)

-- the greatest state of a square
abbrev pub IsGreatestOf : List Node → ℕ → ℕ → Type 0
IsGreatestOf nodes id state = (level : ℕ) → IsOf nodes id level → IsGreatest (cell_of nodes level id) state
