-- What holds of the nodes of every store, and how they grow.
use Rattle.std.specs.Prelude.{◌≡◌, ℕ, ◌-◌, ◌*◌, ◌^◌, ◌<◌, ◌≤◌, List, length, max, slice_index_or}
use Rattle.ca_quad.specs.declared.node.Node.{Node}
use Rattle.ca_quad.specs.declared.node.Node.TheVariants.{Leaf, Block, Join}
use Rattle.ca_quad.specs.Squares.{IsAmong, place_id}

-- the four parts of a square of this level: each is one level lower, and named by its cells or by one of the first places
pub record HasParts (nodes : List Node) (places level nw ne sw se : ℕ) : Type 0 where
  pub least : 2 ≤ level
  pub most : level ≤ 125
  pub is_nw : IsAmong nodes places nw (level - 1)
  pub is_ne : IsAmong nodes places ne (level - 1)
  pub is_sw : IsAmong nodes places sw (level - 1)
  pub is_se : IsAmong nodes places se (level - 1)

-- the node may be kept after the first places: it isn't named by its cells, and its parts are at those places
abbrev pub IsStorable : List Node → ℕ → Node → Type 0
IsStorable nodes places (Leaf nw ne sw se) = 2 ≤ max (max nw ne) (max sw se)
IsStorable nodes places (Block n) = n < 2 ^ 64
IsStorable nodes places (Join level nw ne sw se) = HasParts nodes places level nw ne sw se × (place_id 0 ≤ max (max nw ne) (max sw se))

-- the node at a place
abbrev pub node_at : List Node → ℕ → Node
node_at nodes place = slice_index_or nodes place (Leaf 0 0 0 0)

-- each node is good, and none is listed twice
pub record IsSoundStore (nodes : List Node) : Type 0 where
  pub good : (place : ℕ) → place < length nodes → IsStorable nodes place (node_at nodes place)
  pub once : (i j : ℕ) → i < length nodes → j < length nodes → node_at nodes i ≡ node_at nodes j → i ≡ j

-- the new nodes are the old ones, and then more
pub record Grows (old new : List Node) : Type 0 where
  pub sound : IsSoundStore new
  pub longer : length old ≤ length new
  pub kept : (place : ℕ) → place < length old → node_at new place ≡ node_at old place

-- no other square is added than the one with this id
abbrev pub AddsOnly : List Node → List Node → ℕ → Type 0
AddsOnly old new id = (place : ℕ) → length old ≤ place → place < length new → id ≡ place_id place

-- a store with this many nodes is full
abbrev pub most_nodes : ℕ
most_nodes = 9 * 2 ^ 28
