-- How many cells are live, as a sum over the square.
use Rattle.std.specs.Prelude.{◌≡◌, ℕ, zero, suc, ◌+◌, ◌-◌, ◌^◌, ◌==◌, min, if◌then◌else◌, List}
use Rattle.ca_quad.specs.declared.{node.Node.Node, tree.Tree.Tree}
use Rattle.ca_quad.specs.Squares.{IsOf, cell_of}

-- the sum of the terms 0 to n - 1
abbrev pub sum_below : ℕ → (ℕ → ℕ) → ℕ
sum_below zero term = 0
sum_below (suc n) term = sum_below n term + term n

-- a live cell counts 1
abbrev pub cell_population : ℕ → ℕ
cell_population state = if state == 0 then 0 else 1

-- how many cells of a square are live: of all with x and y below the side
abbrev pub population : (ℕ → ℕ → ℕ) → ℕ → ℕ
population cells side = sum_below side (λ y. sum_below side (λ x. cell_population (cells x y)))

-- how many cells of a tree are live
abbrev pub live_cells_of_tree : List Node → Tree → ℕ
live_cells_of_tree nodes tree = population (cell_of nodes tree.level tree.root) (2 ^ tree.level)

-- the number of the live cells, or the greatest u128 where it is larger
abbrev pub IsPopulationIn : (ℕ → ℕ → ℕ) → ℕ → ℕ → Type 0
IsPopulationIn cells side count = count ≡ min (population cells side) (2 ^ 128 - 1)

-- that of a square
abbrev pub IsCountOf : List Node → ℕ → ℕ → Type 0
IsCountOf nodes id count = (level : ℕ) → IsOf nodes id level → IsPopulationIn (cell_of nodes level id) (2 ^ level) count
