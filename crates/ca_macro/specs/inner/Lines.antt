-- A whole line, as it is read by itself.
use Rattle.std.specs.Prelude.{◌≡◌, ℕ, ◌≤◌, List, [], ◌∷◌, Bool}
use Rattle.std.specs.List.{AllByRecursion}
use Rattle.ca_macro.specs.declared.line.Line.{Line}
use Rattle.ca_macro.specs.declared.line.Line.TheVariants.{Comment, Leaf, Cells, Parts}
use Rattle.ca_macro.specs.Nodes as nodes
use Rattle.ca_macro.specs.{File.Adds, File.MacrocellWordsSay, inner.Comments.said_of, inner.Leaves.leaf_bits}
use Rattle.ca_plane.specs.Prelude.{nearest_u64}

-- what is read of a line of these words is what they say: of a leaf the bits of its rows, and of the numbers of nodes what is kept
abbrev pub ReadsLines : List (List ℕ) → Line → Type 0
ReadsLines words (Comment comment) = MacrocellWordsSay words (said_of comment)
ReadsLines words (Leaf bits) = (rows : List (List Bool)) × MacrocellWordsSay words (Adds (nodes.Leaf rows)) × (bits ≡ leaf_bits 8 rows)
ReadsLines words (Cells states) = (nw : ℕ) × (ne : ℕ) × (sw : ℕ) × (se : ℕ) × MacrocellWordsSay words (Adds (nodes.Cells nw ne sw se))
    × AllByRecursion (λ state. state ≤ 255) (nw ∷ ne ∷ sw ∷ se ∷ []) × (states ≡ nw ∷ ne ∷ sw ∷ se ∷ [])
ReadsLines words (Parts kept) = (nw : ℕ) × (ne : ℕ) × (sw : ℕ) × (se : ℕ) × MacrocellWordsSay words (Adds (nodes.Parts kept.level nw ne sw se))
    × nodes.IsLevel kept.level × (kept.nw ≡ nearest_u64 nw) × (kept.ne ≡ nearest_u64 ne) × (kept.sw ≡ nearest_u64 sw) × (kept.se ≡ nearest_u64 se)
