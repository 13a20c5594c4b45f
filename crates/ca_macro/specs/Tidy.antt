-- Tidy texts: the one form in which a plane is written (our own).
use Rattle.std.specs.Prelude.{◌≡◌, ◌≢◌, ℕ, ◌+◌, ◌≤◌, ℤ, List, [], ◌∷◌, ◌++◌, map, length, filter, Bool, true, false, not, ◌==◌, Some, None, codes, decimal, ◌⊎◌, if◌then◌else◌}
use Rattle.std.specs.List.{flat_map, list_all, AllByRecursion, AllPairs, last_or, range_with_len, join_with_byte}
use Rattle.ca_plane.specs.Prelude.{letter, cell}
use Rattle.ca_quad.specs.Prelude.{HoldsAll}
use Rattle.ca_macro.specs.Nodes.{Node, Leaf, Cells, Parts, node_level, leaf_mark, MayFollow}
use Rattle.ca_macro.specs.Shown.{numbered_square, picture_of_nodes}

-- the smallest level of a root
abbrev pub lowest_level : ℕ → ℕ
lowest_level states = if states == 2 then 4 else 1

-- each live cell lies in the square of this level round the centre
abbrev pub Fits : ℕ → (ℤ → ℤ → ℕ) → Type 0
Fits level cells = HoldsAll level cells

-- of the levels that a root may have, the smallest that holds the live cells
pub record IsLeastLevel (states : ℕ) (cells : ℤ → ℤ → ℕ) (level : ℕ) : Type 0 where
  pub allowed : lowest_level states ≤ level
  pub fits : Fits level cells
  pub least : (other : ℕ) → lowest_level states ≤ other → Fits other cells → level ≤ other

-- each node may follow the earlier ones
abbrev pub AreInPlace : List Node → List Node → Type 0
AreInPlace earlier [] = Unit {0}
AreInPlace earlier (n ∷ ns) = MayFollow earlier n × AreInPlace (earlier ++ n ∷ []) ns

-- the form of a node: where there are two states, squares of level 3 are leaves, of eight rows of at most eight cells without dead
-- cells at their ends, and no lower ones are written; else squares of level 1 are four states
abbrev pub HasForm : ℕ → Node → Type 0
HasForm states (Leaf rows) =
    (states ≡ 2) × (length rows ≡ 8) × AllByRecursion (λ row. length row ≤ 8) rows × AllByRecursion (λ row. last_or (Some true) row ≡ Some true) rows
HasForm states (Cells nw ne sw se) = states ≢ 2
HasForm states (Parts level nw ne sw se) = states ≡ 2 → 4 ≤ level

-- the node has no live cell of its own, and no part but the empty square
abbrev pub is_empty : Node → Bool
is_empty (Leaf rows) = list_all (list_all not) rows
is_empty (Cells nw ne sw se) = list_all (λ state. state == 0) (nw ∷ ne ∷ sw ∷ se ∷ [])
is_empty (Parts level nw ne sw se) = list_all (λ number. number == 0) (nw ∷ ne ∷ sw ∷ se ∷ [])

-- the numbers of a node's parts
abbrev pub node_parts : Node → List ℕ
node_parts (Leaf rows) = []
node_parts (Cells nw ne sw se) = []
node_parts (Parts level nw ne sw se) = nw ∷ ne ∷ sw ∷ se ∷ []

-- the walks over earlier nodes and over those that follow them: a walk over a node comes to all that the walks over its parts come to, one
-- after another, and then to the node itself
abbrev pub walks_after : List (List ℕ) → List Node → List (List ℕ)
walks_after earlier [] = earlier
walks_after earlier (n ∷ ns) = walks_after (earlier ++ (flat_map (numbered_square earlier) (node_parts n) ++ (length earlier + 1) ∷ []) ∷ []) ns

-- the walk over the root
abbrev pub walk_of : List Node → List ℕ
walk_of nodes = numbered_square (walks_after [] nodes) (length nodes)

-- each number once, where it comes first
abbrev pub numbers_once : List ℕ → List ℕ
numbers_once [] = []
numbers_once (n ∷ ns) = n ∷ filter (λ m. not (m == n)) (numbers_once ns)

-- numbers as they are written
abbrev pub numbers_text : List ℕ → List ℕ
numbers_text numbers = join_with_byte (letter " ") (map decimal numbers)

-- a node as it is written
abbrev pub node_text : Node → List ℕ
node_text (Leaf rows) = flat_map (λ row. map leaf_mark row ++ codes "$") rows
node_text (Cells nw ne sw se) = numbers_text (1 ∷ nw ∷ ne ∷ sw ∷ se ∷ [])
node_text (Parts level nw ne sw se) = numbers_text (level ∷ nw ∷ ne ∷ sw ∷ se ∷ [])

-- a generation as it is written: no line for 0
abbrev pub generation_lines : ℕ → List (List ℕ)
generation_lines generation = if generation == 0 then [] else (codes "#G " ++ decimal generation) ∷ []

-- the lines
abbrev pub tidy_lines : List ℕ → ℕ → List Node → List (List ℕ)
tidy_lines rule_text generation nodes =
    codes "[M2] (cafile)" ∷ (codes "#R " ++ rule_text) ∷ (generation_lines generation ++ map node_text nodes)

-- the nodes of a plane, given by its cells at every x and y, as they are written under a rule with this number of states
pub record AreTidyNodes (states : ℕ) (cells : ℤ → ℤ → ℕ) (nodes : List Node) : Type 0 where
  pub root : Node
  pub shown : (x y : ℤ) → cells x y ≡ cell (picture_of_nodes nodes) x y
  pub root_is_last : last_or None nodes ≡ Some root
  pub level : IsLeastLevel states cells (node_level root)
  pub in_place : AreInPlace [] nodes
  pub forms : AllByRecursion (HasForm states) nodes
  -- no node is written twice
  pub distinct : AllPairs (λ m n. m ≢ n) nodes
  -- only the root may be an empty node, and then it is the only node
  pub empties : AllByRecursion (λ n. is_empty n ≡ false) nodes ⊎ (nodes ≡ root ∷ [])
  -- the walk over the root comes to the nodes first in the order of their numbers
  pub order : numbers_once (walk_of nodes) ≡ range_with_len 1 (length nodes)

-- the one text of a plane, its rule text, its generation and its rule's number of states
pub record IsTidyMacrocell (text : List ℕ) (cells : ℤ → ℤ → ℕ) (rule_text : List ℕ) (generation states : ℕ) : Type 0 where
  pub nodes : List Node
  pub tidy : AreTidyNodes states cells nodes
  -- each line ends with LF
  pub spelled : text ≡ flat_map (λ line. line ++ 10 ∷ []) (tidy_lines rule_text generation nodes)
