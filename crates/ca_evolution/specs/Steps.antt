-- Trees that are advanced by some generations, and what work that takes.
use Rattle.std.specs.Prelude.{ℕ, ◌+◌, ◌*◌, ◌^◌, ◌≤◌, ◌<◌, ℤ, List}
use Rattle.ca_plane.specs.Prelude.{cells_after, most_generations}
use Rattle.ca_quad.specs.declared.{node.Node.Node, tree.Tree.Tree}
use Rattle.ca_quad.specs.Prelude.{IsTree, cell, IsTrimmed, HoldsAll}
use Rattle.ca_pattern.specs.Prelude.{run_work, IsWithinPlane}

-- the plane of the tree can be advanced by n generations: the tree is no larger than it need be, and no live cell lies
-- outside the square of a plane then
pub record CanGoOn (next : List ℕ → ℕ) (nodes : List Node) (tree : Tree) (n : ℕ) : Type 0 where
  pub is_tree : IsTree nodes tree
  pub low : tree.level ≤ 64
  pub trimmed : IsTrimmed nodes tree
  pub few : n ≤ most_generations
  pub near : IsWithinPlane (cells_after next (cell nodes tree) n)

-- how many units of work one generation of a tree of this level takes at most: 13 fourteenths of what a run of one generation may need
abbrev pub step_work : (level : ℕ) → ℕ
step_work level = 13 * 14 ^ (level + 2)

-- from the old count of work to the new one it is at most n steps of a tree of a level that holds the live cells before each of the steps up to the limit
abbrev pub TakesSteps : (old new : ℕ) → (stages : ℕ → ℤ → ℤ → ℕ) → (limit n : ℕ) → Type 0
TakesSteps old new stages limit n = (level : ℕ) → 1 ≤ level → ((m : ℕ) → m < limit → HoldsAll level (stages m)) → new ≤ old + n * step_work level

-- from the old count of work to the new one it is at most a run of n generations of a tree of this level
abbrev pub TakesRun : (old new level n : ℕ) → Type 0
TakesRun old new level n = (digits : ℕ) → n < 2 ^ digits → new ≤ old + run_work n level digits
