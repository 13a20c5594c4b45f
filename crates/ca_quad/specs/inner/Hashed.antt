-- What a node feeds a hash: one write. Nodes with the same four parts have one level, so that needs none.
use Rattle.std.specs.Prelude.{ℕ, List, [], ◌∷◌}
use Rattle.std.specs.Hash as fed
use Rattle.ca_quad.specs.declared.node.Node.{Node}
use Rattle.ca_quad.specs.declared.node.Node.TheVariants.{Leaf, Block, Join}
use Rattle.ca_quad.specs.inner.IdForm.{four_numbers}

abbrev pub hash_key : Node → List (List ℕ)
hash_key (Leaf nw ne sw se) = (nw ∷ ne ∷ sw ∷ se ∷ []) ∷ []
hash_key (Block n) = fed.u64 n
hash_key (Join level nw ne sw se) = fed.u128 (four_numbers nw ne sw se)
