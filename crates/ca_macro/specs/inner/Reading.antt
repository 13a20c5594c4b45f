-- How a macrocell text is read into a store of squares, a line at a time.
use Rattle.std.specs.Prelude.{◌≡◌, ℕ, suc, ◌-◌, ◌<◌, ◌≤◌, ℤ, List, [], ◌∷◌, length, slice_index, Option, None, Some, IfSome, MatchOption, unwrap_or}
use Rattle.std.specs.List.{flat_map}
use Rattle.std.specs.Option.{option_copied}
use Rattle.ca_plane.specs.Prelude.{nearest_u64, IsWord, generation_limit, default_rule, Picture, IsPicture, cell, from_corner}
use Rattle.ca_quad.specs.declared.{node.Node.Node as Kept, tree.Tree.Tree}
use Rattle.ca_quad.specs.Prelude.{cell_of, IsSoundStore, ShowsSquare, IsTree}
use Rattle.ca_macro.specs.declared.{fault.MacroFault.MacroFault, line.numbers.Numbers.Numbers, read.reading.Reading.Reading, read.squares.Squares.Squares}
use Rattle.ca_macro.specs.declared.fault.MacroFault.TheVariants.{Forward, Level, Memory}
use Rattle.ca_macro.specs.{Nodes.Node, Nodes.Parts, Nodes.node_level, Nodes.NamesPart, Nodes.MayFollow, File.MacrocellLine, File.MacrocellFile, File.IsMacrocellFile, File.added_nodes, File.last_rule}
use Rattle.ca_macro.specs.{File.last_line_generation, Shown.numbered_square, Shown.squares_of, Faults.AreFaulty, Faults.HasBadPart, Faults.AddNode, Faults.HasNodeLine, Faults.IsFirstMacrocellFaultOn}

-- the square shows the cells of a picture, counted from its upper left corner
pub record Draws (store : List Kept) (square : Tree) (picture : Picture) : Type 0 where
  pub is_tree : IsTree store square
  pub states : IsPicture picture
  pub has_cells : (x y : ℤ) → cell picture x y ≡ from_corner (cell_of store square.level square.root) x y

-- each node's square has its level and shows its picture
abbrev pub AreDrawn : List Kept → List Node → List Picture → List Tree → Type 0
AreDrawn store [] [] [] = Unit {0}
AreDrawn store [] [] (t ∷ ts) = ⊥
AreDrawn store [] (p ∷ ps) ts = ⊥
AreDrawn store (n ∷ ns) [] ts = ⊥
AreDrawn store (n ∷ ns) (p ∷ ps) [] = ⊥
AreDrawn store (n ∷ ns) (p ∷ ps) (t ∷ ts) = (t.level ≡ node_level n) × Draws store t p × AreDrawn store ns ps ts

-- the squares of level 1, 2 and so on whose cells are all 0
abbrev pub AreEmpties : List Kept → List ℕ → Type 0
AreEmpties store ids = (i : ℕ) → i < length ids → ShowsSquare store (slice_index ids i) (suc i) (λ x y. 0)

-- the squares that are kept for a text's nodes
pub record AreSquares (store : List Kept) (nodes : List Node) (squares : Squares) : Type 0 where
  pub sound : IsSoundStore store
  pub drawn : AreDrawn store nodes (squares_of nodes) squares.squares.items
  pub empties : AreEmpties store squares.empties.ids.items

-- a number names a part of this level: the empty square, or this one
abbrev pub IsNodePart : List Kept → List Node → (level number : ℕ) → Option ℕ → Type 0
IsNodePart store nodes level number None = number ≡ 0
IsNodePart store nodes level number (Some id) =
    NamesPart nodes level number × Draws store (record { root = id; level = level }) (numbered_square (squares_of nodes) number)

-- a number may not name a part of this level, and this is why
abbrev pub IsBadNumber : MacroFault → List Node → (level number : ℕ) → Type 0
IsBadNumber Forward nodes level number = length nodes < number
IsBadNumber Level nodes level number = (number ≤ length nodes) × (NamesPart nodes level number → ⊥)
IsBadNumber fault nodes level number = ⊥

-- of these numbers this is kept
pub record KeepsParts (kept : Numbers) (nw ne sw se : ℕ) : Type 0 where
  pub is_nw : kept.nw ≡ nearest_u64 nw
  pub is_ne : kept.ne ≡ nearest_u64 ne
  pub is_sw : kept.sw ≡ nearest_u64 sw
  pub is_se : kept.se ≡ nearest_u64 se

-- four numbers can't be a square's parts, or there is no memory for the square
abbrev pub HaveNumberFault : MacroFault → List Node → (level nw ne sw se : ℕ) → Type 0
HaveNumberFault Memory nodes level nw ne sw se = MayFollow nodes (Parts level nw ne sw se)
HaveNumberFault f nodes level nw ne sw se = HasBadPart nodes (level - 1) (nw ∷ ne ∷ sw ∷ se ∷ []) (IsBadNumber f nodes (level - 1))

-- the fault of a line with these words that follows earlier nodes
abbrev pub HasNodeFault : MacroFault → List Node → List (List ℕ) → Type 0
HasNodeFault Memory earlier words = AddNode earlier words
HasNodeFault f earlier words = AreFaulty f earlier words

-- the line with this number has the first fault of a text; or there is no memory for the node of a good line
abbrev pub HasFaultOn : List ℕ → MacroFault → ℕ → Type 0
HasFaultOn bytes Memory n = HasNodeLine bytes
HasFaultOn bytes f n = IsFirstMacrocellFaultOn bytes f n

-- the first fault of a text and its line; or, without a line, there is no memory for the node of a good line
abbrev pub IsMacrocellReadingFault : List ℕ → MacroFault → Option ℕ → Type 0
IsMacrocellReadingFault bytes fault line =
    MatchOption line ((fault ≡ Memory) × HasNodeLine bytes) (IsFirstMacrocellFaultOn bytes fault)

-- what is kept once lines have said this
pub record IsMacrocellReading (store : List Kept) (said : List MacrocellLine) (reading : Reading) : Type 0 where
  pub squares : AreSquares store (flat_map added_nodes said) reading.squares
  pub rule : (text : List ℕ) → last_rule text said ≡ unwrap_or (option_copied reading.rule) text
  pub word : IfSome reading.rule (λ r. IsWord r.now)
  pub generation : last_line_generation 0 said ≡ reading.generation
  pub limit : reading.generation < generation_limit

-- the file of lines that say this
abbrev pub file_of_lines : List MacrocellLine → MacrocellFile
file_of_lines said = record { nodes = flat_map added_nodes said; rule_text = last_rule default_rule said; generation = last_line_generation 0 said }

-- the text is a file, and this is what is kept of its lines
abbrev pub HoldsReading : List Kept → List ℕ → Reading → Type 0
HoldsReading store bytes reading = (said : List MacrocellLine) × IsMacrocellFile bytes (file_of_lines said) × IsMacrocellReading store said reading
