-- Small macrocell texts on which the definitions are tried.
use Rattle.std.specs.Prelude.{ℕ, ℤ, pos, negsuc, ◌+ℤ◌, List, [], ◌∷◌, true, false, codes}
use Rattle.ca_plane.specs.Prelude.{text_of, Picture}
use Rattle.ca_macro.specs.{Nodes.Node, Nodes.Leaf, Nodes.Cells, Nodes.Parts, File.MacrocellFile}

-- `[M2]`, and a line after it
abbrev pub after_first : List ℕ → List ℕ
after_first line = text_of (codes "[M2]" ∷ line ∷ [])

-- a glider
abbrev pub glider_text : List ℕ
glider_text = text_of (codes "[M2] (cafile)" ∷ codes "#R B3/S23" ∷ codes ".*$..*$***$$$$$$" ∷ codes "4 0 0 0 1" ∷ [])

-- a file of a leaf, the south-east part of its root
abbrev pub leaf_file : Node → ℕ → MacrocellFile
leaf_file leaf generation = record { nodes = leaf ∷ Parts 4 0 0 0 1 ∷ []; rule_text = codes "B3/S23"; generation = generation }

-- a glider, the upper left corner of the box round it at x and y
abbrev pub glider_at : ℤ → ℤ → Picture
glider_at x y =
    (record { y = y; x = x +ℤ pos 1 }, 1) ∷ (record { y = y +ℤ pos 1; x = x +ℤ pos 2 }, 1) ∷ (record { y = y +ℤ pos 2; x = x }, 1)
    ∷ (record { y = y +ℤ pos 2; x = x +ℤ pos 1 }, 1) ∷ (record { y = y +ℤ pos 2; x = x +ℤ pos 2 }, 1) ∷ []

abbrev pub glider_leaf : Node
glider_leaf = Leaf ((false ∷ true ∷ []) ∷ (false ∷ false ∷ true ∷ []) ∷ (true ∷ true ∷ true ∷ []) ∷ [] ∷ [] ∷ [] ∷ [] ∷ [] ∷ [])

abbrev pub glider_file : MacrocellFile
glider_file = leaf_file glider_leaf 0

abbrev pub glider : Picture
glider = glider_at (pos 0) (pos 0)

-- the same cut off inside its leaf
abbrev pub cut_text : List ℕ
cut_text = codes "[M2] (cafile)\n#R B3/S23\n.*$..*$"

abbrev pub cut_leaf : Node
cut_leaf = Leaf ((false ∷ true ∷ []) ∷ (false ∷ false ∷ true ∷ []) ∷ [])

abbrev pub cut_file : MacrocellFile
cut_file = record { nodes = cut_leaf ∷ []; rule_text = codes "B3/S23"; generation = 0 }

-- the leaf is the root then
abbrev pub cut : Picture
cut = (record { y = negsuc 3; x = negsuc 2 }, 1) ∷ (record { y = negsuc 2; x = negsuc 1 }, 1) ∷ []

-- a text cut off inside its last line
abbrev pub cut_numbers_text : List ℕ
cut_numbers_text = codes "[M2]\n*$\n4 0 0 0 "

-- a glider as Golly writes it, after 4 generations
abbrev pub golly_text : List ℕ
golly_text = text_of (codes "[M2] (golly 4.2)" ∷ codes "#R B3/S23" ∷ codes "#G 4" ∷ codes "$$..*$...*$.***$$$$" ∷ codes "4 0 0 0 1" ∷ [])

abbrev pub golly_leaf : Node
golly_leaf = Leaf (
    [] ∷ [] ∷ (false ∷ false ∷ true ∷ []) ∷ (false ∷ false ∷ false ∷ true ∷ []) ∷ (false ∷ true ∷ true ∷ true ∷ []) ∷ [] ∷ [] ∷ [] ∷ [])

abbrev pub golly_file : MacrocellFile
golly_file = leaf_file golly_leaf 4

-- it lies one cell further right and two further down
abbrev pub golly_glider : Picture
golly_glider = glider_at (pos 1) (pos 2)

-- a cross of five cells of state 2, under a rule of three states
abbrev pub cross_text : List ℕ
cross_text = text_of (
    codes "[M2] (cafile)" ∷ codes "#R Spread" ∷ codes "1 0 0 2 0" ∷ codes "1 0 2 0 0" ∷ codes "1 2 2 2 0" ∷ codes "2 0 1 2 3" ∷ [])

abbrev pub cross_file : MacrocellFile
cross_file = record {
  nodes = Cells 0 0 2 0 ∷ Cells 0 2 0 0 ∷ Cells 2 2 2 0 ∷ Parts 2 0 1 2 3 ∷ [];
  rule_text = codes "Spread";
  generation = 0;
}

abbrev pub cross : Picture
cross =
    (record { y = negsuc 0; x = pos 0 }, 2) ∷ (record { y = pos 0; x = negsuc 0 }, 2)
    ∷ (record { y = pos 0; x = pos 0 }, 2) ∷ (record { y = pos 0; x = pos 1 }, 2) ∷ (record { y = pos 1; x = pos 0 }, 2) ∷ []

-- the empty plane under a rule of two states, and of three
abbrev pub empty_text : List ℕ
empty_text = text_of (codes "[M2] (cafile)" ∷ codes "#R B3/S23" ∷ codes "4 0 0 0 0" ∷ [])

abbrev pub empty_text_of_states : List ℕ
empty_text_of_states = text_of (codes "[M2] (cafile)" ∷ codes "#R Spread" ∷ codes "1 0 0 0 0" ∷ [])

-- comments, blank lines, blanks at the ends of lines and CR, two rule texts, and a last line that isn't ended; leaves and states
-- in one text
abbrev pub mixed_text : List ℕ
mixed_text = codes "[M2]\r\n# 4 0 0 0 0\r\n #R Old rule\r\n\r\n#R\r\n#Rule\r\n\t#R New\r\n#G 007 \r\n**$**$\r\n1 0 0 0 0200\r\n2 2 0 0 2\r\n#G"

abbrev pub mixed_leaf : Node
mixed_leaf = Leaf ((true ∷ true ∷ []) ∷ (true ∷ true ∷ []) ∷ [])

abbrev pub mixed_file : MacrocellFile
mixed_file = record {
  nodes = mixed_leaf ∷ Cells 0 0 0 200 ∷ Parts 2 2 0 0 2 ∷ [];
  rule_text = codes "New";
  generation = 7;
}

-- the root alone is shown
abbrev pub mixed : Picture
mixed = (record { y = negsuc 0; x = negsuc 0 }, 200) ∷ (record { y = pos 1; x = pos 1 }, 200) ∷ []
