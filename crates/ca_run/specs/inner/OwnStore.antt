-- Runs in a store of their own (our own).
use Rattle.std.specs.Prelude.{◌≡◌, ℤ, ◌<◌, ◌⊎◌, List}
use Rattle.ca_quad.specs.declared.{node.Node.Node, tree.Tree.Tree}
use Rattle.ca_quad.specs.Prelude.{IsSoundStore, IsTree, cell}
use Rattle.ca_run.specs.Leaping.{LeaperView}
use Rattle.ca_budget.specs.Prelude.{Spends, tries, most_tries}
use Rattle.ca_run.specs.declared.leaper.dense.ReachedTree.{ReachedTree}
use Rattle.ca_budget.specs.declared.pace.Pace.{Pace}

-- the tree has the level and the cells of a tree of another store
pub record IsCopyOfTree (old : List Node) (tree : Tree) (new : List Node) (copy : Tree) : Type 0 where
  pub is_tree : IsTree new copy
  pub level : copy.level ≡ tree.level
  pub cells : (x y : ℤ) → cell new copy x y ≡ cell old tree x y

-- the rule is the same, as much may be remembered, and no work is given back; of the squares nothing is said but that they are sound
pub record KeepsOn (Rule : Type 0) (old new : LeaperView Rule) : Type 0 where
  pub rule : new.rule ≡ old.rule
  pub memo : new.memo ≡ old.memo
  pub sound : IsSoundStore new.nodes
  pub spends : Spends old.spent new.spent

-- a run is nearer to its end: it has reached more generations, or as many, and less may still be tried
abbrev pub IsNearer : ReachedTree → Pace → ReachedTree → Pace → Type 0
IsNearer reached pace later after =
    ((reached.generations < later.generations) × (tries after < most_tries))
    ⊎ ((later.generations ≡ reached.generations) × (tries after < tries pace))
