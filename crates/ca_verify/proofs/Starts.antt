-- Trees of planes that are looked at, and what their planes show after some generations.
use Rattle.std.proofs.Common.{List, arith}
use Rattle.std.proofs.lemmas.Int.{ints}
use Rattle.ca_quad.specs.declared.{node.Node.Node, tree.Tree.Tree}
use Rattle.ca_pattern.specs.Prelude.{IsStart, IsPattern, IsNearTree}
use Rattle.ca_pattern.proofs.Starts.{near_start}

-- that of a pattern is one
pub pattern_start : (nodes : List Node) (tree : Tree) → IsPattern nodes tree → IsStart nodes tree
pattern_start nodes tree is = record {
  is_tree = is.is_tree;
  low = is.low;
  trimmed = is.trimmed;
  within = λ x y live.
      let here = is.range x y live in
      ((omega (arith, ints, here), omega (arith, ints, here)), (omega (arith, ints, here), omega (arith, ints, here)));
}

-- so neither has that
pub near_pattern : (nodes : List Node) (tree : Tree) → IsPattern nodes tree → IsNearTree nodes tree
near_pattern nodes tree is = near_start nodes tree (pattern_start nodes tree is)
