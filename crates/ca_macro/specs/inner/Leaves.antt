-- The line of a leaf, read byte by byte.
use Rattle.std.specs.Prelude.{◌≡◌, ◌⊎◌, ℕ, zero, suc, ◌+◌, ◌-◌, ◌*◌, List, [], ◌∷◌, map, length, Bool, true, false, not, ◌&&◌, ◌||◌, ◌==◌, nat_le, Option, Some, None, if◌then◌else◌}
use Rattle.std.specs.List.{list_all}
use Rattle.ca_plane.specs.Prelude.{letter}
use Rattle.ca_macro.specs.declared.fault.MacroFault.{MacroFault}
use Rattle.ca_macro.specs.declared.fault.MacroFault.TheVariants.{Syntax, LeafSize}
use Rattle.ca_macro.specs.{Nodes.leaf_rows, Faults.is_leaf_byte, Faults.HasBadByte}

-- the byte of a cell
abbrev pub is_mark : ℕ → Bool
is_mark b = (b == letter ".") || (b == letter "*")

-- the byte of a live one
abbrev pub is_live : ℕ → Bool
is_live b = b == letter "*"

-- the rows are of cells alone, and there is room for them: at most `height` rows, at most `width` cells in the first,
-- and at most eight in each of the others
abbrev pub has_room : (height width : ℕ) → List (List ℕ) → Bool
has_room height width [] = true
has_room zero width (r ∷ rs) = false
has_room (suc height) width (r ∷ rs) = (list_all is_mark r && nat_le (length r) width) && has_room height 8 rs

-- the bytes are those of a leaf
abbrev pub is_leaf : List ℕ → Bool
is_leaf bytes = has_room 8 8 (leaf_rows bytes)

-- the fault of bytes that go on where `height` rows are left, and `width` cells of the first of them
abbrev pub leaf_fault : (height width : ℕ) → List ℕ → Option MacroFault
leaf_fault height width [] = None
leaf_fault height width (b ∷ bs) =
    if height == 0 then (if is_leaf_byte b then Some LeafSize else Some Syntax)
    else (if b == letter "$" then leaf_fault (height - 1) 8 bs
    else (if is_mark b then (if width == 0 then Some LeafSize else leaf_fault height (width - 1) bs)
    else Some Syntax))

-- what is wrong with the line of a leaf
abbrev pub IsLeafFault : List ℕ → MacroFault → Type 0
IsLeafFault bytes Syntax = HasBadByte bytes (λ b. not (is_leaf_byte b))
IsLeafFault bytes LeafSize = HasBadByte bytes is_leaf_byte
IsLeafFault bytes fault = ⊥

-- a row's cells as the bits of a number, of which bit 0 is the first cell
abbrev pub row_bits : List Bool → ℕ
row_bits [] = 0
row_bits (live ∷ more) = (if live then 1 else 0) + 2 * row_bits more

-- `height` rows, each by its bits; the rows that are left out are dead
abbrev pub leaf_bits : ℕ → List (List Bool) → List ℕ
leaf_bits zero rows = []
leaf_bits (suc height) [] = 0 ∷ leaf_bits height []
leaf_bits (suc height) (row ∷ rows) = row_bits row ∷ leaf_bits height rows

-- the cells of rows that bytes give
abbrev pub leaf_cells : List ℕ → List (List Bool)
leaf_cells bytes = map (map is_live) (leaf_rows bytes)

-- the first row of bytes, and the bytes after its `$`
abbrev pub IsRowSplit : (bytes row later : List ℕ) → Type 0
IsRowSplit bytes row later = (leaf_rows bytes ≡ row ∷ leaf_rows later) ⊎ ((bytes ≡ []) × (row ≡ []) × (later ≡ []))
