-- Trees that are made wider (our own).
use Rattle.std.specs.Prelude.{◌≡◌, ℕ, ℤ, List}
use Rattle.ca_quad.specs.declared.{node.Node.Node, tree.Tree.Tree}
use Rattle.ca_quad.specs.Prelude.{IsTree, cell}

-- the wide tree has this level, and shows the same cells as the narrow one
pub record IsPadded (old : List Node) (narrow : Tree) (level : ℕ) (new : List Node) (wide : Tree) : Type 0 where
  pub is_tree : IsTree new wide
  pub has_level : wide.level ≡ level
  pub cells : (x y : ℤ) → cell new wide x y ≡ cell old narrow x y
