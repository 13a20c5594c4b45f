-- The trees of planes after some generations.
use Rattle.std.specs.Prelude.{◌≡◌, ℕ, ◌≤◌, ℤ, List}
use Rattle.ca_plane.specs.Prelude.{cells_after, IsInPlane}
use Rattle.ca_quad.specs.declared.{node.Node.Node, tree.Tree.Tree}
use Rattle.ca_quad.specs.Prelude.{IsTree, cell, IsTrimmed, HoldsAll}
use Rattle.ca_pattern.specs.PatternTrees.{IsNearTree}

-- no live cell lies outside the square of a plane
abbrev pub IsWithinPlane : (ℤ → ℤ → ℕ) → Type 0
IsWithinPlane cells = (x y : ℤ) → (IsInPlane (record { y = y; x = x }) → ⊥) → cells x y ≡ 0

-- the tree of a plane that is looked at: a low one, no larger than it need be, whose live cells are at most 2^61 from 0
pub record IsStart (nodes : List Node) (tree : Tree) : Type 0 where
  pub is_tree : IsTree nodes tree
  pub low : tree.level ≤ 63
  pub trimmed : IsTrimmed nodes tree
  pub within : HoldsAll 62 (cell nodes tree)

-- the tree of the cells n generations after the first ones: no larger than it need be, and with no live cell outside the square of a plane
pub record IsLaterTree (next : List ℕ → ℕ) (first : ℤ → ℤ → ℕ) (n : ℕ) (nodes : List Node) (tree : Tree) : Type 0 where
  pub near : IsNearTree nodes tree
  pub low : tree.level ≤ 64
  pub trimmed : IsTrimmed nodes tree
  pub shows : (x y : ℤ) → cell nodes tree x y ≡ cells_after next first n x y
