-- Trees that are ready to be written and reported on.
use Rattle.std.specs.Prelude.{ℕ, ◌<◌}
use Rattle.ca_plane.specs.Prelude.{generation_limit}
use Rattle.ca_quad.specs.Prelude.{IsTree, cell}
use Rattle.ca_rule.specs.Prelude.{RuleValue}
use Rattle.ca_pattern.specs.declared.pattern.StoredTree.{StoredTree}
use Rattle.ca_pattern.specs.States.{HasSmallStates}

-- a tree of small states under the rule, whose cells may lie anywhere
pub record IsSmallTree (stored : StoredTree) (rule : RuleValue) (generation : ℕ) : Type 0 where
  pub is_tree : IsTree stored.store stored.tree
  pub small : HasSmallStates rule (cell stored.store stored.tree)
  pub low : generation < generation_limit
