-- A square that shows part of larger cells.
use Rattle.std.specs.Prelude.{◌≡◌, ℕ, ◌+◌, ◌<◌, ◌^◌, List}
use Rattle.ca_quad.specs.declared.node.Node.{Node}
use Rattle.ca_quad.specs.Squares.{IsOf, cell_of}

-- the id names a square of this level, which shows the cells from (left, top) on
pub record ShowsFrom (nodes : List Node) (id level : ℕ) (cells : ℕ → ℕ → ℕ) (left top : ℕ) : Type 0 where
  pub is_square : IsOf nodes id level
  pub has_cells : (x y : ℕ) → x < 2 ^ level → y < 2 ^ level → cell_of nodes level id x y ≡ cells (left + x) (top + y)
