-- Squares of cells, as a list of nodes keeps them (Gosper, "Exploiting regularities in large cellular spaces").
-- A square of level k has 2 ^ k cells a side. Its four quarters are listed in the order north-west, north-east,
-- south-west, south-east.
use Rattle.std.specs.Prelude.{◌≡◌, ℕ, zero, suc, ◌+◌, ◌-◌, ◌/◌, ◌%◌, ◌^◌, ◌<◌, List, length, nat_lt, ◌==◌, ◌&&◌, if◌then◌else◌, slice_index_or}
use Rattle.ca_quad.specs.declared.{named.IdForm.IdForm, node.Node.Node, square.Square.Square}
use Rattle.ca_quad.specs.declared.named.IdForm.TheVariants.{Cells2, Cells4, Kept}
use Rattle.ca_quad.specs.declared.node.Node.TheVariants.{Leaf, Block, Join}
use Rattle.ca_quad.specs.declared.square.Square.TheVariants.{Four, Parts}

-- an id is a number. The first 16 name the 2 by 2 squares of two states, by their cells
abbrev pub cells2 : ℕ → ℕ
cells2 cells = cells

-- the next 65536 name the 4 by 4 squares of two states
abbrev pub cells4 : ℕ → ℕ
cells4 cells = 16 + cells

-- and the others the nodes of the list, by their places
abbrev pub place_id : ℕ → ℕ
place_id place = 65552 + place

-- what an id names
abbrev pub meaning_of_id : ℕ → IdForm
meaning_of_id id = if nat_lt id 16 then Cells2 id else (if nat_lt id 65552 then Cells4 (id - 16) else Kept (id - 65552))

-- the digit of a number at a place, the lowest at place 0
abbrev pub digit : ℕ → ℕ → ℕ → ℕ
digit base n place = n / base ^ place % base

-- what a node shows: a block's parts are its number's digits of base 65536
abbrev pub node_square : Node → Square
node_square (Leaf nw ne sw se) = Four nw ne sw se
node_square (Block n) = Parts 3 (cells4 (digit 65536 n 0)) (cells4 (digit 65536 n 1)) (cells4 (digit 65536 n 2)) (cells4 (digit 65536 n 3))
node_square (Join level nw ne sw se) = Parts level nw ne sw se

-- a 4 by 4 square of two states shows its parts: its number's digits of base 16
abbrev pub shown_cells4 : ℕ → Square
shown_cells4 n = Parts 2 (cells2 (digit 16 n 0)) (cells2 (digit 16 n 1)) (cells2 (digit 16 n 2)) (cells2 (digit 16 n 3))

-- what a named square shows: a 2 by 2 square's cells are its number's binary digits
abbrev pub square_named : List Node → IdForm → Square
square_named nodes (Cells2 n) = Four (digit 2 n 0) (digit 2 n 1) (digit 2 n 2) (digit 2 n 3)
square_named nodes (Cells4 n) = shown_cells4 n
square_named nodes (Kept place) = node_square (slice_index_or nodes place (Leaf 0 0 0 0))

-- the square of an id: its four cells, or its level and four parts
abbrev pub square_of : List Node → ℕ → Square
square_of nodes id = square_named nodes (meaning_of_id id)

abbrev pub level : Square → ℕ
level (Four nw ne sw se) = 1
level (Parts k nw ne sw se) = k

-- the square has four parts, and not four cells
abbrev pub IsParted : Square → Type 0
IsParted (Four nw ne sw se) = ⊥
IsParted (Parts k nw ne sw se) = Unit {0}

-- the level of an id's square
abbrev pub level_of : List Node → ℕ → ℕ
level_of nodes id = level (square_of nodes id)

-- the id names a square of this level, by its cells or by one of the first places
pub record IsAmong (nodes : List Node) (places id level : ℕ) : Type 0 where
  pub before : id < place_id places
  pub is_level : level_of nodes id ≡ level

-- the id names a square of this level
abbrev pub IsOf : List Node → ℕ → ℕ → Type 0
IsOf nodes id level = IsAmong nodes (length nodes) id level

-- one cell: its state at (0, 0), and 0 elsewhere
abbrev pub one_cell : ℕ → ℕ → ℕ → ℕ
one_cell state x y = if (x == 0) && (y == 0) then state else 0

-- four squares that lie together, each with this many cells a side
abbrev pub joined_cells : ℕ → (ℕ → ℕ → ℕ) → (ℕ → ℕ → ℕ) → (ℕ → ℕ → ℕ) → (ℕ → ℕ → ℕ) → ℕ → ℕ → ℕ
joined_cells side nw ne sw se x y =
    if nat_lt y side then (if nat_lt x side then nw x y else ne (x - side) y)
    else (if nat_lt x side then sw x (y - side) else se (x - side) (y - side))

-- the cells of a square whose quarters have this many cells a side
abbrev pub cells_in : (ℕ → ℕ → ℕ → ℕ) → Square → ℕ → ℕ → ℕ → ℕ
cells_in part (Four nw ne sw se) side = joined_cells side (one_cell nw) (one_cell ne) (one_cell sw) (one_cell se)
cells_in part (Parts k nw ne sw se) side = joined_cells side (part nw) (part ne) (part sw) (part se)

-- the state at (x, y) of a square of this level, counted from its upper left corner; 0 beyond its side
abbrev pub cell_of : List Node → ℕ → ℕ → ℕ → ℕ → ℕ
cell_of nodes zero id = λ x y. 0
cell_of nodes (suc k) id = cells_in (cell_of nodes k) (square_of nodes id) (2 ^ k)
