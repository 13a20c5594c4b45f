-- Squares in a square.
use Rattle.std.specs.Prelude.{◌≡◌, ℕ, suc, ◌-◌, ◌/◌, ◌^◌, ◌<◌, ◌↔◌, List}
use Rattle.ca_quad.specs.declared.node.Node.{Node}
use Rattle.ca_quad.specs.Prelude.{IsOf, cell_of}
use Rattle.ca_draw.specs.declared.squares.PartPlace.{PartPlace}

-- every cell is 0 in the square of 2^scale cells a side at this column and row, counted from the corner of a larger one
abbrev pub IsBlankIn : (ℕ → ℕ → ℕ) → ℕ → ℕ → ℕ → Type 0
IsBlankIn cells scale column row = (x y : ℕ) → x / 2 ^ scale ≡ column → y / 2 ^ scale ≡ row → cells x y ≡ 0

-- the square at this column and row of a larger one is that of its part, which has this level
pub record LiesInPart (nodes : List Node) (id level scale column row : ℕ) (part : PartPlace) : Type 0 where
  pub is_square : IsOf nodes part.id level
  pub column_in : part.column < 2 ^ (level - scale)
  pub row_in : part.row < 2 ^ (level - scale)
  pub blank : IsBlankIn (cell_of nodes level part.id) scale part.column part.row ↔ IsBlankIn (cell_of nodes (suc level) id) scale column row
