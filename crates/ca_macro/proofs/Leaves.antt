-- Leaves: what a test by rows finds, and what one byte by byte does.
use Rattle.std.proofs.Common.{◌≡◌, ℕ, zero, suc, ◌≤◌, Bool, true, false, ◌&&◌, nat_le, List, [], ◌∷◌, map, length, refl, sym, ap, ap₂, subst, ◌∙◌, arith}
use Rattle.std.specs.List.{AllByRecursion, list_all}
use Rattle.std.proofs.lemmas.Bool.{and_parts, and_from, leb-true, le-leb, true≢false}
use Rattle.std.proofs.lemmas.List.{length-map}
use Rattle.std.proofs.lemmas.Bool.Decides.{nat_tests}
use Rattle.ca_macro.specs.Prelude.{leaf_mark, leaf_rows, IsLeaf}
use Rattle.ca_macro.specs.inner.Leaves.{is_mark, is_live, has_room, is_leaf}

-- ---- rows of marks

-- a mark is that of its cell
mark_found : (b : ℕ) → is_mark b ≡ true → leaf_mark (is_live b) ≡ b
mark_found b h = grind (arith, nat_tests)

marks_found : (bs : List ℕ) → list_all is_mark bs ≡ true → map leaf_mark (map is_live bs) ≡ bs
marks_found [] h = refl
marks_found (b ∷ bs) h =
    let p = and_parts (is_mark b) (list_all is_mark bs) h in
    ap₂ (λ x xs. x ∷ xs) (mark_found b p.0) (marks_found bs p.1)

mark_passes : (live : Bool) → is_mark (leaf_mark live) ≡ true
mark_passes true = refl
mark_passes false = refl

marks_pass : (row : List Bool) → list_all is_mark (map leaf_mark row) ≡ true
marks_pass [] = refl
marks_pass (live ∷ row) = and_from (is_mark (leaf_mark live)) (list_all is_mark (map leaf_mark row)) (mark_passes live) (marks_pass row)

-- ---- a leaf is rows that there is room for

-- at most `height` rows of at most eight cells
abbrev HasRoom : ℕ → List (List Bool) → Type 0
HasRoom height rows = (length rows ≤ height) × AllByRecursion (λ row. length row ≤ 8) rows

room_found : (height : ℕ) (rs : List (List ℕ)) → has_room height 8 rs ≡ true → HasRoom height (map (map is_live) rs) × (rs ≡ map (map leaf_mark) (map (map is_live) rs))
room_found height [] h = ((omega arith, tt), refl)
room_found zero (r ∷ rs) h = absurd (true≢false (sym h))
room_found (suc height) (r ∷ rs) h =
    let p = and_parts (list_all is_mark r && nat_le (length r) 8) (has_room height 8 rs) h in
    let q = and_parts (list_all is_mark r) (nat_le (length r) 8) p.0 in
    let later = room_found height rs p.1 in
    let longest = leb-true (length r) 8 q.1 in
    let same = length-map r is_live in
    let count = later.0.0 in
    ((omega arith, (omega arith, later.0.1)), ap₂ (λ x xs. x ∷ xs) (sym (marks_found r q.0)) later.1)

-- bytes that pass the test are a leaf
pub leaf_found : (bytes : List ℕ) → is_leaf bytes ≡ true → IsLeaf bytes (map (map is_live) (leaf_rows bytes))
leaf_found bytes h = let room = room_found 8 (leaf_rows bytes) h in record { marks = room.1; height = room.0.0; width = room.0.1 }

room_passes : (height : ℕ) (rows : List (List Bool)) → HasRoom height rows → has_room height 8 (map (map leaf_mark) rows) ≡ true
room_passes height [] h = refl
room_passes zero (row ∷ rows) h = absurd (omega arith)
room_passes (suc height) (row ∷ rows) h =
    let count = h.0 in
    let same = length-map row leaf_mark in
    let longest = h.1.0 in
    and_from (list_all is_mark (map leaf_mark row) && nat_le (length (map leaf_mark row)) 8) (has_room height 8 (map (map leaf_mark) rows))
    (and_from (list_all is_mark (map leaf_mark row)) (nat_le (length (map leaf_mark row)) 8) (marks_pass row) (le-leb (length (map leaf_mark row)) 8 (omega arith)))
    (room_passes height rows (omega arith, h.1.1))

-- a leaf's bytes pass it
pub leaf_passes : (bytes : List ℕ) (rows : List (List Bool)) → IsLeaf bytes rows → is_leaf bytes ≡ true
leaf_passes bytes rows leaf = subst (λ rs. has_room 8 8 rs ≡ true) (sym leaf.marks) (room_passes 8 rows (leaf.height, leaf.width))

-- bytes that don't are no leaf
pub no_leaf : (bytes : List ℕ) (rows : List (List Bool)) → is_leaf bytes ≡ false → IsLeaf bytes rows → ⊥
no_leaf bytes rows h leaf = true≢false (sym (leaf_passes bytes rows leaf) ∙ h)

-- ---- the rows of a leaf are those of its bytes

live_found : (live : Bool) → is_live (leaf_mark live) ≡ live
live_found true = refl
live_found false = refl

row_found : (row : List Bool) → map is_live (map leaf_mark row) ≡ row
row_found [] = refl
row_found (live ∷ row) = ap₂ (λ x xs. x ∷ xs) (live_found live) (row_found row)

rows_found : (rows : List (List Bool)) → map (map is_live) (map (map leaf_mark) rows) ≡ rows
rows_found [] = refl
rows_found (row ∷ rows) = ap₂ (λ x xs. x ∷ xs) (row_found row) (rows_found rows)

pub one_leaf : (bytes : List ℕ) (rows : List (List Bool)) → IsLeaf bytes rows → map (map is_live) (leaf_rows bytes) ≡ rows
one_leaf bytes rows leaf = ap (map (map is_live)) leaf.marks ∙ rows_found rows
