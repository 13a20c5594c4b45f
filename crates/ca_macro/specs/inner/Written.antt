-- The nodes that a writer has gathered from a store of squares, and the numbers of their squares.
use Rattle.std.specs.Prelude.{◌≡◌, ◌≢◌, ℕ, zero, suc, ◌-◌, ◌<◌, ◌≤◌, ◌/◌, ◌%◌, ◌==◌, ℤ, List, [], ◌∷◌, ◌++◌, map, length, Bool, false, Some, if◌then◌else◌, slice_index}
use Rattle.std.specs.List.{AllByRecursion, AllPairs, range_with_len}
use Rattle.ca_plane.specs.Prelude.{Picture, cell, from_corner}
use Rattle.ca_quad.specs.declared.node.Node.{Node as Kept}
use Rattle.ca_quad.specs.Squares as squares
use Rattle.ca_quad.specs.Prelude.{square_value, AreQuarters}
use Rattle.ca_macro.specs.declared.write.written.WrittenNode.{WrittenNode}
use Rattle.ca_macro.specs.declared.write.written.WrittenNode.TheVariants.{Leaf, Cells, Parts}
use Rattle.ca_macro.specs.{Nodes.Node, Nodes.node_level, Nodes.NamesPart, Nodes.MayFollow, Shown.numbered_square, Shown.node_picture, Shown.squares_of}
use Rattle.ca_macro.specs.{Tidy.AreInPlace, Tidy.HasForm, Tidy.is_empty, Tidy.walks_after, Tidy.numbers_once}
use Rattle.ca_macro.specs.Nodes as nodes

-- a row's cells by its bits, without the dead cells at its end
abbrev pub row_marks : ℕ → ℕ → List Bool
row_marks zero bits = []
row_marks (suc width) bits = if bits == 0 then [] else (bits % 2 == 1) ∷ row_marks width (bits / 2)

-- the node that is written
abbrev pub node_of : WrittenNode → Node
node_of (Leaf rows) = nodes.Leaf (map (row_marks 8) rows)
node_of (Cells states) = nodes.Cells (slice_index states 0) (slice_index states 1) (slice_index states 2) (slice_index states 3)
node_of (Parts level numbers) = nodes.Parts level (slice_index numbers 0) (slice_index numbers 1) (slice_index numbers 2) (slice_index numbers 3)

-- the cells of an id's square
abbrev pub kept_cells : List Kept → ℕ → ℕ → ℕ → ℕ
kept_cells kept id = squares.cell_of kept (squares.level_of kept id) id

-- a picture shows a square, its upper left cell at (0, 0)
abbrev pub IsPictureOfSquare : Picture → (ℕ → ℕ → ℕ) → Type 0
IsPictureOfSquare picture cells = (x y : ℤ) → cell picture x y ≡ from_corner cells x y

-- the level of the squares that are written without parts
abbrev pub leaf_level : ℕ → ℕ
leaf_level states = if states == 2 then 3 else 1

-- a square that is written by these four parts
pub record HasFitParts (kept : List Kept) (states id : ℕ) (parts : List ℕ) : Type 0 where
  pub least : leaf_level states < squares.level_of kept id
  pub most : squares.level_of kept id ≤ 120
  pub low : (x y : ℕ) → kept_cells kept id x y < states
  pub quarters : AreQuarters kept id (squares.level_of kept id - 1) parts

-- the number names a square among these nodes
pub record IsWrittenNumber (kept : List Kept) (ns : List Node) (id number : ℕ) : Type 0 where
  pub at_most : number ≤ length ns
  pub names : NamesPart ns (squares.level_of kept id) number
  pub shows : IsPictureOfSquare (numbered_square (squares_of ns) number) (kept_cells kept id)

-- the node may be written for this square after these nodes
pub record IsNodeOf (kept : List Kept) (states : ℕ) (ns : List Node) (id : ℕ) (node : Node) : Type 0 where
  pub in_place : MayFollow ns node
  pub form : HasForm states node
  pub level : node_level node ≡ squares.level_of kept id
  pub shows : IsPictureOfSquare (node_picture (squares_of ns) node) (kept_cells kept id)

-- what has been gathered: nodes as they are written, each that of a square, and the squares' numbers
pub record IsGathered (kept : List Kept) (states : ℕ) (ns : List Node) (numbers : List (ℕ × ℕ)) : Type 0 where
  pub in_place : AreInPlace [] ns
  pub forms : AllByRecursion (HasForm states) ns
  pub distinct : AllPairs (λ m n. m ≢ n) ns
  pub live : AllByRecursion (λ n. is_empty n ≡ false) ns
  pub numbered : (id number : ℕ) → square_value numbers id ≡ Some number → (id < squares.place_id (length kept)) × IsWrittenNumber kept ns id number
  pub each : (i : ℕ) → i < length ns → (id : ℕ) × (square_value numbers id ≡ Some (suc i))

-- the new nodes are the old ones, and more after them
abbrev pub Extends : List Node → List Node → Type 0
Extends old new = (more : List Node) × (new ≡ old ++ more)

-- where walks so far came first to the old nodes in their order, they come first to the new ones in theirs, after one over this number
abbrev pub KeepsFirstOrder : List Node → List Node → ℕ → Type 0
KeepsFirstOrder old new number = (walked : List ℕ) → numbers_once walked ≡ range_with_len 1 (length old)
    → numbers_once (walked ++ numbered_square (walks_after [] new) number) ≡ range_with_len 1 (length new)

-- the root of the empty plane
abbrev pub empty_root : ℕ → Node
empty_root states = if states == 2 then nodes.Parts 4 0 0 0 0 else nodes.Cells 0 0 0 0
