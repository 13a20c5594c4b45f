-- What calls give: squares with stated cells, and the cells of trees on the unbounded plane.
use Rattle.std.specs.Prelude.{◌≡◌, ◌≢◌, ℕ, suc, ◌-◌, ◌^◌, ◌<◌, ◌≤◌, ℤ, pos, neg_ℤ, ◌+ℤ◌, ◌<ℤ◌, ◌≤ℤ◌, List, [], ◌∷◌, length, slice_index}
use Rattle.ca_quad.specs.declared.{node.Node.Node, square.Square.Square, tree.Tree.Tree}
use Rattle.ca_quad.specs.declared.square.Square.TheVariants.{Four, Parts}
use Rattle.ca_plane.specs.Prelude.{from_corner}
use Rattle.ca_quad.specs.Squares.{place_id, level_of, IsOf, one_cell, joined_cells, cell_of}

-- the id is one of these nodes' squares
abbrev pub IsIn : List Node → ℕ → Type 0
IsIn nodes id = id < place_id (length nodes)

-- the id names a square of this level with these cells
pub record ShowsSquare (nodes : List Node) (id level : ℕ) (cells : ℕ → ℕ → ℕ) : Type 0 where
  pub is_square : IsOf nodes id level
  pub has_cells : (x y : ℕ) → cell_of nodes level id x y ≡ cells x y

-- every cell is 0
abbrev pub IsEmpty : (ℕ → ℕ → ℕ) → Type 0
IsEmpty cells = (x y : ℕ) → cells x y ≡ 0

-- four squares of this level, which make one of the next
pub record AreFour (nodes : List Node) (level nw ne sw se : ℕ) : Type 0 where
  pub is_low : level ≤ 124
  pub is_nw : IsOf nodes nw level
  pub is_ne : IsOf nodes ne level
  pub is_sw : IsOf nodes sw level
  pub is_se : IsOf nodes se level

-- two squares of the same level with the same cells
pub record AreSame (nodes : List Node) (a b : ℕ) : Type 0 where
  pub same_level : level_of nodes a ≡ level_of nodes b
  pub same_cells : (x y : ℕ) → cell_of nodes (level_of nodes a) a x y ≡ cell_of nodes (level_of nodes b) b x y

-- an old square stays what it was
pub record Stays (old new : List Node) (id level : ℕ) : Type 0 where
  pub is_square : IsOf new id level
  pub has_cells : (x y : ℕ) → cell_of new level id x y ≡ cell_of old level id x y

-- some cell has a state above 1
abbrev pub HasMoreStates : (ℕ → ℕ → ℕ) → Type 0
HasMoreStates cells = (x : ℕ) × (y : ℕ) × (2 ≤ cells x y)

-- these four cells make the square
pub record AreCorners (nodes : List Node) (id : ℕ) (cells : List ℕ) : Type 0 where
  pub has_cells : (x y : ℕ) → cell_of nodes 1 id x y
      ≡ joined_cells 1 (one_cell (slice_index cells 0)) (one_cell (slice_index cells 1)) (one_cell (slice_index cells 2)) (one_cell (slice_index cells 3)) x y

-- these four squares of the level below make the square
pub record AreQuarters (nodes : List Node) (id level : ℕ) (quarters : List ℕ) : Type 0 where
  pub is_nw : IsOf nodes (slice_index quarters 0) level
  pub is_ne : IsOf nodes (slice_index quarters 1) level
  pub is_sw : IsOf nodes (slice_index quarters 2) level
  pub is_se : IsOf nodes (slice_index quarters 3) level
  pub has_cells : (x y : ℕ) → cell_of nodes (suc level) id x y
      ≡ joined_cells (2 ^ level) (cell_of nodes level (slice_index quarters 0)) (cell_of nodes level (slice_index quarters 1))
      (cell_of nodes level (slice_index quarters 2)) (cell_of nodes level (slice_index quarters 3)) x y

-- the four cells of a square of level 1
abbrev pub corners : Square → List ℕ
corners (Four nw ne sw se) = nw ∷ ne ∷ sw ∷ se ∷ []
corners (Parts level nw ne sw se) = []

-- the four parts of a larger one
abbrev pub parts : Square → List ℕ
parts (Four nw ne sw se) = []
parts (Parts level nw ne sw se) = nw ∷ ne ∷ sw ∷ se ∷ []

-- the tree's root is a square of its level
abbrev pub IsTree : List Node → Tree → Type 0
IsTree nodes tree = IsOf nodes tree.root tree.level

-- the state at (x, y) of a tree, whose middle is the corner of the cell (0, 0)
abbrev pub cell : List Node → Tree → ℤ → ℤ → ℕ
cell nodes tree x y =
    let half = pos (2 ^ (tree.level - 1)) in
    from_corner (cell_of nodes tree.level tree.root) (x +ℤ half) (y +ℤ half)

-- a tree of this level covers x and y from -2^(level-1) to 2^(level-1) - 1
abbrev pub IsWithinLevel : ℕ → ℤ → Type 0
IsWithinLevel level n = (neg_ℤ (pos (2 ^ (level - 1))) ≤ℤ n) × (n <ℤ pos (2 ^ (level - 1)))

-- every live cell lies in the square of a tree of this level
abbrev pub HoldsAll : ℕ → (ℤ → ℤ → ℕ) → Type 0
HoldsAll level cells = (x y : ℤ) → cells x y ≢ 0 → IsWithinLevel level x × IsWithinLevel level y

-- no lower level holds every live cell of the tree
abbrev pub IsTrimmed : List Node → Tree → Type 0
IsTrimmed nodes tree = (level : ℕ) → 1 ≤ level → level < tree.level → HoldsAll level (cell nodes tree) → ⊥
