-- A macrocell text: what each of its lines says (Golly Help, File Formats: Macrocell format; what is marked so is our own).
use Rattle.std.specs.Prelude.{◌≡◌, ℕ, ◌<◌, List, [], ◌∷◌, ◌++◌, Bool, true, not, ◌&&◌, ◌||◌, IsTrue, codes}
use Rattle.std.specs.Bool.{nat_eq}
use Rattle.std.specs.List.{AllZip, starts_with, flat_map}
use Rattle.std.specs.Str.{bytes_eq}
use Rattle.ca_plane.specs.Prelude.{generation_limit, default_rule, AreDigits, value, lines_of, words_of}
use Rattle.ca_macro.specs.Nodes.{Node, Leaf, Cells, Parts, IsLeaf, MayFollow}

-- what a line says: nothing, the rule text, the generation, or one more node
pub data MacrocellLine : Type 0 where
  Nothing : MacrocellLine
  Rule : (text : List ℕ) → MacrocellLine
  Generation : (count : ℕ) → MacrocellLine
  Adds : (node : Node) → MacrocellLine

-- the words of a line that says nothing: it is blank (our own), or a comment, which begins with `#`. `#FRAME` begins a plane of a
-- timeline; `#R` and `#G` are comments where they stand alone
abbrev pub is_comment : List (List ℕ) → Bool
is_comment [] = true
is_comment (w ∷ []) = starts_with nat_eq w (codes "#") && not (starts_with nat_eq w (codes "#FRAME"))
is_comment (w ∷ v ∷ ws) =
    starts_with nat_eq w (codes "#")
    && not (starts_with nat_eq w (codes "#FRAME") || (bytes_eq w (codes "#R") || bytes_eq w (codes "#G")))

-- a word is a number
abbrev pub IsNumber : List ℕ → ℕ → Type 0
IsNumber word n = AreDigits word × (n ≡ value word)

-- the words are a node's five numbers
abbrev pub AreNumbers : List (List ℕ) → (level nw ne sw se : ℕ) → Type 0
AreNumbers words level nw ne sw se = AllZip IsNumber words (level ∷ nw ∷ ne ∷ sw ∷ se ∷ [])

-- what a line says by its words. `#R` and a word is the rule text; what follows it is ignored. `#G` and a number is the generation.
-- A leaf is one word. The numbers that follow a level of 1 are states, and those that follow another level are numbers of nodes.
abbrev pub MacrocellWordsSay : List (List ℕ) → MacrocellLine → Type 0
MacrocellWordsSay words Nothing = IsTrue (is_comment words)
MacrocellWordsSay words (Rule text) = (ignored : List (List ℕ)) × (words ≡ codes "#R" ∷ text ∷ ignored)
MacrocellWordsSay words (Generation count) = (digits : List ℕ) × (words ≡ codes "#G" ∷ digits ∷ []) × IsNumber digits count × (count < generation_limit)
MacrocellWordsSay words (Adds (Leaf rows)) = (leaf : List ℕ) × (words ≡ leaf ∷ []) × IsLeaf leaf rows
MacrocellWordsSay words (Adds (Cells nw ne sw se)) = AreNumbers words 1 nw ne sw se
MacrocellWordsSay words (Adds (Parts level nw ne sw se)) = AreNumbers words level nw ne sw se

-- the node that a line adds, if it adds one
abbrev pub added_nodes : MacrocellLine → List Node
added_nodes Nothing = []
added_nodes (Rule text) = []
added_nodes (Generation count) = []
added_nodes (Adds node) = node ∷ []

-- a node that is added may follow the earlier ones
abbrev pub IsAllowedNode : List Node → MacrocellLine → Type 0
IsAllowedNode earlier Nothing = Unit {0}
IsAllowedNode earlier (Rule text) = Unit {0}
IsAllowedNode earlier (Generation count) = Unit {0}
IsAllowedNode earlier (Adds node) = MayFollow earlier node

-- lines that follow earlier nodes, and what each of them says
abbrev pub MacrocellLinesSay : List Node → List (List ℕ) → List MacrocellLine → Type 0
MacrocellLinesSay earlier [] [] = Unit {0}
MacrocellLinesSay earlier [] (s ∷ said) = ⊥
MacrocellLinesSay earlier (l ∷ ls) [] = ⊥
MacrocellLinesSay earlier (l ∷ ls) (s ∷ said) = MacrocellWordsSay (words_of l) s × IsAllowedNode earlier s × MacrocellLinesSay (earlier ++ added_nodes s) ls said

-- the rule text is the last that is said, or else this one
abbrev pub last_rule : List ℕ → List MacrocellLine → List ℕ
last_rule text [] = text
last_rule text (Nothing ∷ said) = last_rule text said
last_rule text (Rule later ∷ said) = last_rule later said
last_rule text (Generation count ∷ said) = last_rule text said
last_rule text (Adds node ∷ said) = last_rule text said

-- the generation is the last that is said, or else this one
abbrev pub last_line_generation : ℕ → List MacrocellLine → ℕ
last_line_generation count [] = count
last_line_generation count (Nothing ∷ said) = last_line_generation count said
last_line_generation count (Rule text ∷ said) = last_line_generation count said
last_line_generation count (Generation later ∷ said) = last_line_generation later said
last_line_generation count (Adds node ∷ said) = last_line_generation count said

-- what a macrocell text holds: its nodes in the order of their lines, the rule text and the generation
pub record MacrocellFile : Type 0 where
  pub nodes : List Node
  pub rule_text : List ℕ
  pub generation : ℕ

-- the text begins as a macrocell's
abbrev pub begins_macro : List ℕ → Bool
begins_macro bytes = starts_with nat_eq bytes (codes "[M2]")

-- the bytes are a macrocell text that holds this. What follows `[M2]` on the first line is ignored; without a rule text it is the
-- default one, and without a generation it is 0 (our own)
pub record IsMacrocellFile (bytes : List ℕ) (file : MacrocellFile) : Type 0 where
  pub first : List ℕ
  pub lines : List (List ℕ)
  pub said : List MacrocellLine
  pub begins : begins_macro bytes ≡ true
  pub lines_are : lines_of bytes ≡ first ∷ lines
  pub say : MacrocellLinesSay [] lines said
  pub nodes : file.nodes ≡ flat_map added_nodes said
  pub rule_text : file.rule_text ≡ last_rule default_rule said
  pub generation : file.generation ≡ last_line_generation 0 said
