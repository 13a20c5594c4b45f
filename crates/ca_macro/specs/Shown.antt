-- The picture of a macrocell's nodes (Golly Help, File Formats: Macrocell format; the place of its centre is our own).
use Rattle.std.specs.Prelude.{ℕ, zero, suc, ◌-◌, ◌^◌, ℤ, pos, neg_ℤ, ◌+ℤ◌, List, [], ◌∷◌, ◌++◌, map, Bool, ◌==◌, Option, Some, None, get_or, length, if◌then◌else◌}
use Rattle.std.specs.List.{last_or}
use Rattle.ca_plane.specs.Prelude.{Picture, shifted}
use Rattle.ca_macro.specs.Nodes.{Node, Leaf, Cells, Parts, node_level}

-- the live cells of a row of states, from (x, y) to the right
abbrev pub row_from : ℤ → ℤ → List ℕ → Picture
row_from x y [] = []
row_from x y (s ∷ ss) =
    if s == 0 then row_from (x +ℤ pos 1) y ss
    else (record { y = y; x = x }, s) ∷ row_from (x +ℤ pos 1) y ss

-- the live cells of rows of states, from (0, y) down
abbrev pub rows_from : ℤ → List (List ℕ) → Picture
rows_from y [] = []
rows_from y (r ∷ rs) = row_from (pos 0) y r ++ rows_from (y +ℤ pos 1) rs

-- the state of a leaf's cell
abbrev pub leaf_state : Bool → ℕ
leaf_state live = if live then 1 else 0

-- four pictures, each moved to its corner of a square whose half side is this
abbrev pub joined_picture : ℕ → (nw ne sw se : Picture) → Picture
joined_picture half nw ne sw se =
    nw ++ (shifted ne (pos half) (pos 0) ++ (shifted sw (pos 0) (pos half) ++ shifted se (pos half) (pos half)))

-- the list of the square with a number, among the lists of the nodes: 0 is the empty square, and nodes are numbered from 1
abbrev pub numbered_square : {A : Type 0} → List (List A) → ℕ → List A
numbered_square lists zero = []
numbered_square lists (suc i) = get_or lists i []

-- the picture of a node that follows nodes of these pictures, its upper left cell at (0, 0)
abbrev pub node_picture : List Picture → Node → Picture
node_picture earlier (Leaf rows) = rows_from (pos 0) (map (map leaf_state) rows)
node_picture earlier (Cells nw ne sw se) = rows_from (pos 0) ((nw ∷ ne ∷ []) ∷ (sw ∷ se ∷ []) ∷ [])
node_picture earlier (Parts level nw ne sw se) =
    joined_picture (2 ^ (level - 1)) (numbered_square earlier nw) (numbered_square earlier ne) (numbered_square earlier sw) (numbered_square earlier se)

-- the pictures of earlier nodes and of those that follow them
abbrev pub squares_after : List Picture → List Node → List Picture
squares_after earlier [] = earlier
squares_after earlier (n ∷ ns) = squares_after (earlier ++ node_picture earlier n ∷ []) ns

-- the pictures of all nodes
abbrev pub squares_of : List Node → List Picture
squares_of nodes = squares_after [] nodes

-- the picture of a square of this level, moved so that the corner between (-1, -1) and (0, 0) is its centre
abbrev pub centred_picture : ℕ → Picture → Picture
centred_picture level square = shifted square (neg_ℤ (pos (2 ^ (level - 1)))) (neg_ℤ (pos (2 ^ (level - 1))))

-- the picture of nodes is that of the last one, the root
abbrev pub root_picture : Option Node → Picture → Picture
root_picture None square = []
root_picture (Some root) square = centred_picture (node_level root) square

-- without a node it is empty (our own)
abbrev pub picture_of_nodes : List Node → Picture
picture_of_nodes nodes = root_picture (last_or None nodes) (numbered_square (squares_of nodes) (length nodes))
