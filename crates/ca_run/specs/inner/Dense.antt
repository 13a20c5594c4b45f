-- What a run over generations has reached by steps (our own).
use Rattle.std.specs.Prelude.{◌≡◌, ℕ, ◌+◌, ◌*◌, ◌<◌, ◌≤◌, ◌^◌, min, max, ℤ, List, length, Result, IfOk}
use Rattle.ca_plane.specs.Prelude.{GoesByAgeing, cells_after}
use Rattle.ca_plane.specs.declared.counting.Ageing.{Ageing}
use Rattle.ca_quad.specs.declared.{node.Node.Node, tree.Tree.Tree}
use Rattle.ca_quad.specs.Prelude.{IsTree, cell, HoldsAll}
use Rattle.ca_budget.specs.declared.fault.LeapFault.{LeapFault}
use Rattle.ca_run.specs.Leaping.{Costs, LeaperView}
use Rattle.ca_run.specs.declared.leaper.dense.ReachedTree.{ReachedTree}

-- the rule's cells age so, and have two states at least
pub record AgesBy (next : List ℕ → ℕ) (ageing : Ageing) : Type 0 where
  pub least : 2 ≤ ageing.states
  pub most : ageing.states ≤ 256
  pub ages : GoesByAgeing ageing.states next ageing

-- the tree's level is at most any level from `least` onwards that holds all its live cells
abbrev pub IsLow : ℕ → List Node → Tree → Type 0
IsLow least nodes tree = (level : ℕ) → least ≤ level → HoldsAll level (cell nodes tree) → tree.level ≤ level

-- of n generations of the first tree the run has reached as many as it says, and has the tree after them, of a level no more than its
-- cells or the first tree need
pub record HasReached (next : List ℕ → ℕ) (old : List Node) (first : Tree) (n : ℕ) (new : List Node) (reached : ReachedTree) : Type 0 where
  pub is_tree : IsTree new reached.tree
  pub low : IsLow first.level new reached.tree
  pub most : reached.generations ≤ n
  pub cells : (x y : ℤ) → cell new reached.tree x y ≡ cells_after next (cell old first) reached.generations x y

-- nothing was stepped, and nothing was computed
pub record IsIdle (Rule : Type 0) (old new : LeaperView Rule) (result : Result ReachedTree LeapFault) : Type 0 where
  pub none : IfOk result (λ reached. reached.generations ≡ 0)
  pub costs : Costs Rule old new 0 0

-- bricks were to be stepped, of a tree of at least 2^7 cells a side by at least 32 generations, at no more than this cost
pub record IsDense (Rule : Type 0) (old : LeaperView Rule) (first : Tree) (n : ℕ) (new : LeaperView Rule) : Type 0 where
  pub least : 7 ≤ first.level
  pub many : 32 ≤ n
  pub costs : Costs Rule old new (14 ^ (first.level + 6)) 2040

-- leaps for the first j binary digits of what is left of n generations cost no more than this: where nothing was reached before them, as much
-- as one leap for the next digit; and in any case as much as j leaps of the largest tree
pub record HasLeapt (Rule : Type 0) (old : LeaperView Rule) (first : Tree) (reached n j : ℕ) (new : LeaperView Rule) : Type 0 where
  pub rising : reached ≡ 0 → (d : ℕ) → n < 2 ^ d → Costs Rule old new (14 ^ (first.level + min d j + 1)) (16380 * j)
  pub later : (d : ℕ) → n < 2 ^ d → Costs Rule old new (j * 14 ^ (max first.level d + 2)) (16380 * j)

-- a run of n generations went on in a store of its own: its first tree's level plus the number of binary digits of n is
-- at least 15, it cost no more work than can be counted, and at most 4096 squares for each unit of work, and 16380 * 61
-- besides
pub record HasParted (Rule : Type 0) (old : LeaperView Rule) (first : Tree) (n : ℕ) (new : LeaperView Rule) : Type 0 where
  pub long : (d : ℕ) → n < 2 ^ d → 15 ≤ first.level + d
  pub used : new.spent.used < 2 ^ 64
  pub made : length new.nodes + 4096 * old.spent.used ≤ length old.nodes + 4096 * new.spent.used + 16380 * 61
