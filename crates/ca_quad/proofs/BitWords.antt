-- The cells of words, one word after another.
use Rattle.std.proofs.Common.{◌≡◌, ◌≢◌, ℕ, zero, suc, ◌+◌, ◌-◌, ◌*◌, ◌/◌, ◌%◌, ◌^◌, ◌<◌, ◌≤◌, max, List, [], ◌∷◌, ◌++◌, length, take, get_or, replicate, slice_index, slice_set, bit_or, Result, Ok, Err, IfOk, refl, ap, sym, subst, ◌∙◌, inl, inr, ℤ, pos, negsuc, ◌+ℤ◌, ◌-ℤ◌, ◌==◌, ◌&&◌, arith}
use Rattle.std.specs.Int.{bit_at}
use Rattle.std.proofs.Math.Seq.{take-suc}
use Rattle.std.proofs.lemmas.Bool.{cases_Bool, cases_eq, cases_lt, and_parts}
use Rattle.std.proofs.lemmas.Bool.Decides.{nat_tests}
use Rattle.std.proofs.lemmas.Int.{ints}
use Rattle.std.proofs.lemmas.Nat.Bits.{bit_at-zero, bit_at_or, bit_at_above, bit_at_cat_low, bit_at_cat_high}
use Rattle.std.proofs.lemmas.List.{get_or-set_same, get_or-set_other, get_or-replicate}
use Rattle.std.proofs.Math.Nat.{pow-le-pow_right}
use Rattle.ca_plane.specs.declared.{point.Bounds.Bounds, bit_plane.CellWord.CellWord}
use Rattle.ca_plane.specs.Prelude.{state_of_words, state_from_corner, bit_cell, reach, row_cells}
use Rattle.ca_plane.proofs.BitPlanes.{AddsWord-at_end}
use Rattle.ca_quad.specs.declared.{tree.Spot.Spot, node.Node.Node}
use Rattle.ca_quad.specs.Prelude.{ShowsSquare, HoldsAll}
use Rattle.ca_quad.specs.inner.BitParts.{cells_of_word, HaveCells, HasNoCell, IsBoxOfWord, AreApart, AddsCells, AreShiftedBits}
use Rattle.ca_quad.specs.inner.Filled.{cells_from, HoldsBox}
use Rattle.ca_quad.specs.inner.Window.{ShowsFrom}
use Rattle.ca_quad.proofs.FilledSquares.{place_on}

-- a word at the end adds its cells
end_from_corner : (words : List CellWord) (word : CellWord) (column row : ℤ) → state_from_corner (words ++ (word ∷ [])) column row ≡ max (state_from_corner (word ∷ []) column row) (state_from_corner words column row)
end_from_corner words word (pos column) (pos row) = AddsWord-at_end words word column row ∙ ap (λ n. max n (state_of_words words column row)) (omega arith)
end_from_corner words word (pos column) (negsuc row) = refl
end_from_corner words word (negsuc column) (pos row) = refl
end_from_corner words word (negsuc column) (negsuc row) = refl

pub bit_cell-at_end : (words : List CellWord) (word : CellWord) (x y : ℤ) → bit_cell (words ++ (word ∷ [])) x y ≡ max (bit_cell (word ∷ []) x y) (bit_cell words x y)
bit_cell-at_end words word x y = end_from_corner words word (x +ℤ reach) (y +ℤ reach)

-- without a word nothing is live
none_from_corner : (column row : ℤ) → state_from_corner [] column row ≡ 0
none_from_corner (pos column) (pos row) = refl
none_from_corner (pos column) (negsuc row) = refl
none_from_corner (negsuc column) (pos row) = refl
none_from_corner (negsuc column) (negsuc row) = refl

pub bit_cell-none : (x y : ℤ) → bit_cell [] x y ≡ 0
bit_cell-none x y = none_from_corner (x +ℤ reach) (y +ℤ reach)

-- a word tells of its 64 cells alone
live_from_corner : (word : CellWord) (column row : ℤ) → state_from_corner (word ∷ []) column row ≢ 0 → (c : ℕ) × (c < 64) × (column ≡ pos (64 * word.column + c)) × (row ≡ pos word.row)
live_from_corner word (pos column) (pos row) live = elim (cases_Bool (row == word.row && column / 64 == word.column)) [
  | inl e ↦
      let parts = and_parts (row == word.row) (column / 64 == word.column) e in
      let is_row : row ≡ word.row = grind (arith, nat_tests, parts.0) in
      let is_column : column / 64 ≡ word.column = grind (arith, nat_tests, parts.1) in
      let is_cell : column ≡ 64 * word.column + column % 64 = omega (arith, is_column) in
      (column % 64, omega arith, ap (λ n. pos n) is_cell, ap (λ n. pos n) is_row)
  | inr e ↦ absurd (live (rw e refl))
]
live_from_corner word (pos column) (negsuc row) live = absurd (live refl)
live_from_corner word (negsuc column) (pos row) live = absurd (live refl)
live_from_corner word (negsuc column) (negsuc row) live = absurd (live refl)

pub live_in_word : (word : CellWord) (x y : ℤ) → bit_cell (word ∷ []) x y ≢ 0 → (c : ℕ) × (c < 64) × (x +ℤ reach ≡ pos (64 * word.column + c)) × (y +ℤ reach ≡ pos word.row)
live_in_word word x y live = live_from_corner word (x +ℤ reach) (y +ℤ reach) live

pub bit_cell-other : (word : CellWord) (x y : ℤ) → ((c : ℕ) → c < 64 → x +ℤ reach ≡ pos (64 * word.column + c) → y +ℤ reach ≡ pos word.row → ⊥) → bit_cell (word ∷ []) x y ≡ 0
bit_cell-other word x y out = elim (cases_eq (bit_cell (word ∷ []) x y) 0) [
  | inl dead ↦ dead
  | inr live ↦ let (c, low, is_x, is_y) = live_in_word word x y live in absurd (out c low is_x is_y)
]

-- and each of them is its bit
pub bit_cell-here : (word : CellWord) (x y : ℤ) (c : ℕ) → c < 64 → x +ℤ reach ≡ pos (64 * word.column + c) → y +ℤ reach ≡ pos word.row → bit_cell (word ∷ []) x y ≡ bit_at word.bits c
bit_cell-here word x y c low is_x is_y =
    let quotient : (64 * word.column + c) / 64 ≡ word.column = omega (arith, low) in
    let rest : (64 * word.column + c) % 64 ≡ c = omega (arith, low) in
    rw (is_x, is_y) (here word c quotient rest)
  where
    here : (word : CellWord) (c : ℕ) → (64 * word.column + c) / 64 ≡ word.column → (64 * word.column + c) % 64 ≡ c → state_from_corner (word ∷ []) (pos (64 * word.column + c)) (pos word.row) ≡ bit_at word.bits c
    here word c quotient rest = rw (quotient, rest) (grind (arith, nat_tests))

-- parts of words: with one more word, and with one less
pub HaveCells-more : (words part : List CellWord) (word : CellWord) (at : Spot) (side : ℕ) → HaveCells words part at side → HaveCells (words ++ (word ∷ [])) (part ++ (word ∷ [])) at side
HaveCells-more words part word at side have = record { same = λ x y i j. bit_cell-at_end part word (at.x +ℤ pos x) (at.y +ℤ pos y) ∙ ap (λ n. max (cells_of_word word at x y) n) (have.same x y i j) ∙ sym (bit_cell-at_end words word (at.x +ℤ pos x) (at.y +ℤ pos y)) }

pub HaveCells-less : (words part : List CellWord) (word : CellWord) (at : Spot) (side : ℕ) → HasNoCell word at side → HaveCells words part at side → HaveCells (words ++ (word ∷ [])) part at side
HaveCells-less words part word at side misses have = record { same = λ x y i j. have.same x y i j ∙ sym (bit_cell-at_end words word (at.x +ℤ pos x) (at.y +ℤ pos y) ∙ ap (λ n. max n (cells_from (bit_cell words) at x y)) (misses.dead x y i j) ∙ omega arith) }

-- a word apart from a square has no cell there
pub HasNoCell-x : (word : CellWord) (at : Spot) (side : ℕ) → AreApart (64 * word.column) 64 at.x side → HasNoCell word at side
HasNoCell-x word at side apart = record { dead = λ x y i j. bit_cell-other word (at.x +ℤ pos x) (at.y +ℤ pos y) (λ c low is_x is_y. elim apart [ inl before ↦ omega (arith, ints, before, is_x, low) | inr behind ↦ omega (arith, ints, behind, is_x, low, i) ]) }

pub HasNoCell-y : (word : CellWord) (at : Spot) (side : ℕ) → AreApart word.row 1 at.y side → HasNoCell word at side
HasNoCell-y word at side apart = record { dead = λ x y i j. bit_cell-other word (at.x +ℤ pos x) (at.y +ℤ pos y) (λ c low is_x is_y. elim apart [ inl before ↦ omega (arith, ints, before, is_y) | inr behind ↦ omega (arith, ints, behind, is_y, j) ]) }

-- a tree that holds the box of a word holds its cells
pub holds_word : (word : CellWord) (box : Bounds) (level : ℕ) → IsBoxOfWord word box → HoldsBox (2 ^ (level - 1)) box → HoldsAll level (bit_cell (word ∷ []))
holds_word word box level is (a, b, c, d) x y live =
    let (place, low, is_x, is_y) = live_in_word word x y live in
    ((omega (arith, ints, is.x0, is.x1, a, b, is_x, low), omega (arith, ints, is.x0, is.x1, a, b, is_x, low)), (omega (arith, ints, is.y0, is.y1, c, d, is_y), omega (arith, ints, is.y0, is.y1, c, d, is_y)))

-- a tree that holds words, and one as large that holds one more
pub holds_one_more : (words : List CellWord) (word : CellWord) (level next : ℕ) → level ≤ next → HoldsAll level (bit_cell words) → HoldsAll next (bit_cell (word ∷ [])) → HoldsAll next (bit_cell (words ++ (word ∷ [])))
holds_one_more words word level next low old new x y live =
    let wider : 2 ^ (level - 1) ≤ 2 ^ (next - 1) = pow-le-pow_right {n = 2} (omega arith) {i = level - 1} {j = next - 1} (omega (arith, low)) in
    elim (cases_eq (bit_cell words x y) 0) [
      | inl dead ↦ new x y (λ e. live (bit_cell-at_end words word x y ∙ rw (e, dead) refl))
      | inr there ↦ let ((a, b), (c, d)) = old x y there in ((omega (arith, ints, a, wider), omega (arith, ints, b, wider)), (omega (arith, ints, c, wider), omega (arith, ints, d, wider)))
    ]

-- rows without a live cell
pub no_rows_live : (at : Spot) (x y : ℕ) → x < 64 → y < 64 → row_cells (replicate 64 0) x y ≡ cells_from (bit_cell []) at x y
no_rows_live at x y i j = ap (λ n. bit_at n x) (get_or-replicate 64 y 0 0 j) ∙ bit_at-zero x ∙ sym (bit_cell-none (at.x +ℤ pos x) (at.y +ℤ pos y))

-- the cells of one more word are in a row
module _ (word : CellWord) (at : Spot) (rows : List ℕ) (south : ℤ) (is_south : (south +ℤ at.y) +ℤ reach ≡ pos word.row) where
  pub no_row_here : ((n : ℕ) → n < 64 → south ≡ pos n → ⊥) → AddsCells word at rows rows
  no_row_here apart = record { adds = λ x y i j. sym (ap (λ n. max n (row_cells rows x y)) (bit_cell-other word (at.x +ℤ pos x) (at.y +ℤ pos y) (λ c low is_x is_y. apart y j (omega (arith, ints, is_south, is_y)))) ∙ omega arith) }

  module _ (row : ℕ) (is_row : south ≡ pos row) (below : row < length rows) (east : ℤ) (is_east : (east +ℤ at.x) +ℤ reach ≡ pos (64 * word.column)) (moved : ℕ) (are : AreShiftedBits word.bits east moved) where
    -- the moved bits are the cells of the word in its row
    moved_bits : (x : ℕ) → x < 64 → bit_at moved x ≡ cells_of_word word at x row
    moved_bits x i = elim (place_on (pos x -ℤ east) 64) [
      | inl (k, is_k, low) ↦ are.here x k i low (omega (arith, ints, is_k)) ∙ sym (bit_cell-here word (at.x +ℤ pos x) (at.y +ℤ pos row) k low (omega (arith, ints, is_east, is_k)) (omega (arith, ints, is_south, is_row)))
      | inr off ↦ are.empty x i (λ k low e. elim off [ inl west ↦ omega (arith, ints, west, e, low) | inr beyond ↦ omega (arith, ints, beyond, e, low) ])
          ∙ sym (bit_cell-other word (at.x +ℤ pos x) (at.y +ℤ pos row) (λ c low is_x is_y. elim off [ inl west ↦ omega (arith, ints, west, is_east, is_x, low) | inr beyond ↦ omega (arith, ints, beyond, is_east, is_x, low) ]))
    ]

    pub row_here : AddsCells word at rows (slice_set rows row (bit_or (slice_index rows row) moved))
    row_here = record {
      adds = λ x y i j. elim (cases_eq y row) [
        | inl same ↦ rw same (ap (λ n. bit_at n x) (get_or-set_same rows row _ 0 below) ∙ bit_at_or (slice_index rows row) moved x ∙ ap (λ n. max (row_cells rows x row) n) (moved_bits x i) ∙ omega arith)
        | inr other ↦ ap (λ n. bit_at n x) (get_or-set_other rows row y _ 0 other)
            ∙ sym (ap (λ n. max n (row_cells rows x y)) (bit_cell-other word (at.x +ℤ pos x) (at.y +ℤ pos y) (λ c low is_x is_y. other (omega (arith, ints, is_south, is_row, is_y)))) ∙ omega arith)
      ];
    }

-- bits after 64 zeros
pub AreShiftedBits-bits : (bits first : ℕ) (way : ℤ) (moved : ℕ) → bits < 2 ^ 64 → (pos first) +ℤ way ≡ pos 64 → ((i : ℕ) → i < 64 → bit_at moved i ≡ bit_at (bits * 2 ^ 64) (first + i)) → AreShiftedBits bits way moved
AreShiftedBits-bits bits first way moved fits is_way is = record {
  here = λ i k low below e.
      let place : first + i ≡ 64 + k = omega (arith, ints, is_way, e) in
      is i low ∙ ap (λ n. bit_at (bits * 2 ^ 64) n) place ∙ after_zeros bits k;
  empty = λ i low out. is i low ∙ elim (cases_lt (first + i) 64) [
    | inl before ↦ among_zeros bits (first + i) before
    | inr behind ↦ elim (cases_lt (first + i) 128) [
      | inl there ↦ absurd (out (first + i - 64) (omega (arith, there, behind)) (omega (arith, ints, is_way, behind)))
      | inr beyond ↦
          let place : first + i ≡ 64 + (first + i - 64) = omega (arith, behind) in
          ap (λ n. bit_at (bits * 2 ^ 64) n) place ∙ after_zeros bits (first + i - 64) ∙ bit_at_above bits 64 (first + i - 64) fits (omega (arith, beyond))
    ]
  ];
}
  where
    plain : (bits : ℕ) → bits * 2 ^ 64 ≡ bits * 2 ^ 64 + 0
    plain bits = omega arith

    after_zeros : (bits k : ℕ) → bit_at (bits * 2 ^ 64) (64 + k) ≡ bit_at bits k
    after_zeros bits k =
        let less : 64 + k - 64 ≡ k = omega arith in
        ap (λ n. bit_at n (64 + k)) (plain bits) ∙ bit_at_cat_high bits 64 0 (64 + k) (omega arith) (omega arith) ∙ ap (λ n. bit_at bits n) less

    among_zeros : (bits i : ℕ) → i < 64 → bit_at (bits * 2 ^ 64) i ≡ 0
    among_zeros bits i low = ap (λ n. bit_at n i) (plain bits) ∙ bit_at_cat_low bits 64 0 i low ∙ bit_at-zero i

-- eight bytes are rows of a square
pub eight_rows : (cells : ℕ → ℕ → ℕ) (x y a b c d e f g h : ℕ) → ((i : ℕ) → i < 8 → bit_at a i ≡ cells (x + i) y) → ((i : ℕ) → i < 8 → bit_at b i ≡ cells (x + i) (y + 1)) → ((i : ℕ) → i < 8 → bit_at c i ≡ cells (x + i) (y + 2))
    → ((i : ℕ) → i < 8 → bit_at d i ≡ cells (x + i) (y + 3)) → ((i : ℕ) → i < 8 → bit_at e i ≡ cells (x + i) (y + 4)) → ((i : ℕ) → i < 8 → bit_at f i ≡ cells (x + i) (y + 5)) → ((i : ℕ) → i < 8 → bit_at g i ≡ cells (x + i) (y + 6))
    → ((i : ℕ) → i < 8 → bit_at h i ≡ cells (x + i) (y + 7)) → (i j : ℕ) → i < 8 → j < 8 → row_cells (a ∷ b ∷ c ∷ d ∷ e ∷ f ∷ g ∷ h ∷ []) i j ≡ cells (x + i) (y + j)
eight_rows cells x y a b c d e f g h p q r s t u v w i zero low below = let same : y + 0 ≡ y = omega arith in rw same (p i low)
eight_rows cells x y a b c d e f g h p q r s t u v w i (suc zero) low below = q i low
eight_rows cells x y a b c d e f g h p q r s t u v w i (suc (suc zero)) low below = r i low
eight_rows cells x y a b c d e f g h p q r s t u v w i (suc (suc (suc zero))) low below = s i low
eight_rows cells x y a b c d e f g h p q r s t u v w i (suc (suc (suc (suc zero)))) low below = t i low
eight_rows cells x y a b c d e f g h p q r s t u v w i (suc (suc (suc (suc (suc zero))))) low below = u i low
eight_rows cells x y a b c d e f g h p q r s t u v w i (suc (suc (suc (suc (suc (suc zero)))))) low below = v i low
eight_rows cells x y a b c d e f g h p q r s t u v w i (suc (suc (suc (suc (suc (suc (suc zero))))))) low below = w i low
eight_rows cells x y a b c d e f g h p q r s t u v w i (suc (suc (suc (suc (suc (suc (suc (suc j)))))))) low below = absurd (omega (arith, below))

-- a square of eight rows shows a window
pub eight_shown : {E : Type 0} (nodes : List Node) (r : Result ℕ E) (cells : ℕ → ℕ → ℕ) (rows : List ℕ) (x y : ℕ) → ((i j : ℕ) → i < 8 → j < 8 → row_cells rows i j ≡ cells (x + i) (y + j))
    → IfOk r (λ id. ShowsSquare nodes id 3 (row_cells rows)) → IfOk r (λ id. ShowsFrom nodes id 3 cells x y)
eight_shown nodes (Ok id) cells rows x y same shows = record { is_square = shows.is_square; has_cells = λ i j low below. shows.has_cells i j ∙ same i j low below }
eight_shown nodes (Err e) cells rows x y same shows = tt

-- a square that shows a part of words shows the words
pub window_of_part : (nodes : List Node) (id k : ℕ) (words part : List CellWord) (at : Spot) (side : ℕ) → side ≡ 2 ^ k → HaveCells words part at side → ShowsFrom nodes id k (cells_from (bit_cell part) at) 0 0 → ShowsFrom nodes id k (cells_from (bit_cell words) at) 0 0
window_of_part nodes id k words part at side is have shows = record {
  is_square = shows.is_square;
  has_cells = λ x y i j. shows.has_cells x y i j ∙ have.same (0 + x) (0 + y) (omega (arith, is, i)) (omega (arith, is, j));
}

-- one more of the words
taken : (words : List CellWord) (k : ℕ) (d : CellWord) → k < length words → take (k + 1) words ≡ take k words ++ (get_or words k d ∷ [])
taken words k d low =
    let next : k + 1 ≡ suc k = omega arith in
    ap (λ n. take n words) next ∙ take-suc words k d low

pub more_taken : (words part : List CellWord) (k : ℕ) (d : CellWord) (at : Spot) (side : ℕ) → k < length words → HaveCells (take k words) part at side → HaveCells (take (k + 1) words) (part ++ (get_or words k d ∷ [])) at side
more_taken words part k d at side low have = subst (λ l. HaveCells l (part ++ (get_or words k d ∷ [])) at side) (sym (taken words k d low)) (HaveCells-more (take k words) part (get_or words k d) at side have)

pub less_taken : (words part : List CellWord) (k : ℕ) (d : CellWord) (at : Spot) (side : ℕ) → k < length words → HasNoCell (get_or words k d) at side → HaveCells (take k words) part at side → HaveCells (take (k + 1) words) part at side
less_taken words part k d at side low misses have = subst (λ l. HaveCells l part at side) (sym (taken words k d low)) (HaveCells-less (take k words) part (get_or words k d) at side misses have)

pub holds_taken : (words : List CellWord) (k level next : ℕ) (d : CellWord) → k < length words → level ≤ next → HoldsAll level (bit_cell (take k words)) → HoldsAll next (bit_cell (get_or words k d ∷ [])) → HoldsAll next (bit_cell (take (k + 1) words))
holds_taken words k level next d low least old new = subst (λ l. HoldsAll next (bit_cell l)) (sym (taken words k d low)) (holds_one_more (take k words) (get_or words k d) level next least old new)

pub cells_taken : (words : List CellWord) (k : ℕ) (d : CellWord) (at : Spot) (old new : List ℕ) → k < length words → AddsCells (get_or words k d) at old new
    → ((x y : ℕ) → x < 64 → y < 64 → row_cells old x y ≡ cells_from (bit_cell (take k words)) at x y) → (x y : ℕ) → x < 64 → y < 64 → row_cells new x y ≡ cells_from (bit_cell (take (k + 1) words)) at x y
cells_taken words k d at old new low adds shows x y i j =
    let word = get_or words k d in
    adds.adds x y i j ∙ ap (λ n. max (cells_of_word word at x y) n) (shows x y i j) ∙ sym (ap (λ l. cells_from (bit_cell l) at x y) (taken words k d low) ∙ bit_cell-at_end (take k words) word (at.x +ℤ pos x) (at.y +ℤ pos y))
