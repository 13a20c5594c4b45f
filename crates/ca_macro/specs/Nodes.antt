-- The nodes of a macrocell text: squares whose sides are powers of two, each given by its cells or by four earlier squares
-- (Golly Help, File Formats: Macrocell format; what is marked so is our own).
use Rattle.std.specs.Prelude.{◌≡◌, ℕ, zero, suc, ◌-◌, ◌≤◌, List, [], ◌∷◌, map, length, Bool, ◌==◌, Some, slice_get, option_map, if◌then◌else◌}
use Rattle.std.specs.List.{AllByRecursion}
use Rattle.ca_plane.specs.Prelude.{letter, with_front}

-- a node: a leaf of 8 by 8 cells of two states by its rows, of which dead cells and rows at the end may be left out; a square of
-- 2 by 2 cells by their states; or one by its level and the numbers of its four parts
pub data Node : Type 0 where
  Leaf : (rows : List (List Bool)) → Node
  Cells : (nw ne sw se : ℕ) → Node
  Parts : (level nw ne sw se : ℕ) → Node

-- the level of a square whose side is 2^level cells
abbrev pub node_level : Node → ℕ
node_level (Leaf rows) = 3
node_level (Cells nw ne sw se) = 1
node_level (Parts level nw ne sw se) = level

-- how a cell of a leaf is written: `*` is live, `.` is dead
abbrev pub leaf_mark : Bool → ℕ
leaf_mark live = if live then letter "*" else letter "."

-- the rows that bytes give: `$` ends a row; after the last row it may be left out (our own)
abbrev pub leaf_rows : List ℕ → List (List ℕ)
leaf_rows [] = []
leaf_rows (b ∷ bs) = if b == letter "$" then [] ∷ leaf_rows bs else with_front b (leaf_rows bs)

-- the bytes are those of a leaf: at most eight rows of at most eight cells
pub record IsLeaf (bytes : List ℕ) (rows : List (List Bool)) : Type 0 where
  pub marks : leaf_rows bytes ≡ map (map leaf_mark) rows
  pub height : length rows ≤ 8
  pub width : AllByRecursion (λ row. length row ≤ 8) rows

-- a number may name a part of this level after earlier nodes: 0 is the empty square, and nodes are numbered from 1
abbrev pub NamesPart : List Node → ℕ → ℕ → Type 0
NamesPart earlier level zero = Unit {0}
NamesPart earlier level (suc i) = option_map node_level (slice_get earlier i) ≡ Some level

-- the levels of squares that are given by their parts
abbrev pub IsLevel : ℕ → Type 0
IsLevel level = (2 ≤ level) × (level ≤ 120)

-- a node may follow earlier ones: states are at most 255, and parts are earlier nodes of one level less
abbrev pub MayFollow : List Node → Node → Type 0
MayFollow earlier (Leaf rows) = Unit {0}
MayFollow earlier (Cells nw ne sw se) = AllByRecursion (λ state. state ≤ 255) (nw ∷ ne ∷ sw ∷ se ∷ [])
MayFollow earlier (Parts level nw ne sw se) = IsLevel level × AllByRecursion (NamesPart earlier (level - 1)) (nw ∷ ne ∷ sw ∷ se ∷ [])
