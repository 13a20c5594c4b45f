-- Words of cells, and the runs that are written into them.
use Rattle.std.proofs.Common.{◌≡◌, ℕ, zero, suc, ◌+◌, ◌-◌, ◌/◌, ◌%◌, ◌^◌, ◌<◌, ◌≤◌, max, List, [], ◌∷◌, ◌++◌, length, refl, ap₂, sym, ◌∙◌, inl, inr, ◌⊎◌, ℤ, pos, negsuc, ◌+ℤ◌, ◌==◌, ◌&&◌, slice_set, slice_index_or, bit_or, arith}
use Rattle.std.proofs.lemmas.Int.{ints}
use Rattle.std.proofs.lemmas.Bool.{cases_Bool, cases_lt}
use Rattle.std.proofs.lemmas.Nat.Bits.{bit_at-lt, bit_at_or, bit_at_mask_above, bit_at_mask_below, bit_at_mask_inside}
use Rattle.ca_plane.specs.declared.{bit_plane.CellWord.CellWord, point.Point.Point}
use Rattle.ca_plane.specs.Prelude.{word_state, state_of_words, state_from_corner, AddsRun, reach}
use Rattle.ca_plane.specs.inner.BitRuns.{AddsColumns, AddsWord, AreBitsOf, HaveSameCells, IsWordOfRun}

-- a word at the end adds its cells
pub AddsWord-at_end : (words : List CellWord) (word : CellWord) → AddsWord word words (words ++ (word ∷ []))
AddsWord-at_end [] word column row = refl
AddsWord-at_end (first ∷ words) word column row =
    let more = AddsWord-at_end words word column row in
    rw more (omega arith)

-- so does one that is written over another whose cells it has besides
pub AddsWord-over : (words : List CellWord) (place : ℕ) (word joined none : CellWord) → place < length words → ((column row : ℕ) → word_state joined column row ≡ max (word_state word column row) (word_state (slice_index_or words place none) column row)) → AddsWord word words (slice_set words place joined)
AddsWord-over [] place word joined none below same column row = elim below [ ]
AddsWord-over (first ∷ words) zero word joined none below same column row = rw (same column row) (omega arith)
AddsWord-over (first ∷ words) (suc place) word joined none below same column row =
    let more = AddsWord-over words place word joined none (omega arith) same column row in
    rw more (omega arith)

-- the cells of two words of the same cells are in their common word
pub joined-word : (last word : CellWord) → HaveSameCells last word → (column row : ℕ) → word_state (record { row = last.row; column = last.column; bits = bit_or last.bits word.bits }) column row ≡ max (word_state word column row) (word_state last column row)
joined-word last word same column row =
    rw (sym same.row, sym same.column) (elim (cases_Bool (row == last.row && column / 64 == last.column)) [ inl e ↦ rw e (bit_at_or last.bits word.bits (column % 64) ∙ omega arith) | inr e ↦ rw e refl ])

-- a number is below two others, or not below the second, or between them
place_beside : (b first end : ℕ) → (b < first) ⊎ ((end ≤ b) ⊎ ((first ≤ b) × (b < end)))
place_beside b first end = elim (cases_lt b first) [ inl below ↦ inl below | inr least ↦ elim (cases_lt b end) [ inl most ↦ inr (inr (least, most)) | inr above ↦ inr (inl above) ] ]

-- the ones of a run
pub AreBitsOf-mask : (first end : ℕ) → AreBitsOf (2 ^ end - 2 ^ first) first end
AreBitsOf-mask first end = record { within = λ b least most. bit_at_mask_inside first end b least most; outside = λ b out. elim (place_beside b first end) [ inl below ↦ bit_at_mask_below first end b below | inr (inl above) ↦ bit_at_mask_above first end b above | inr (inr both) ↦ elim (out both.0 both.1) [ ] ] }

-- no number is both at least a first one and below it
none_between : (column first : ℕ) → first ≤ column → column < first → ⊥
none_between column first least most = omega (arith, least, most)

-- a word tells of 0 and 1 alone
word_below_two : (word : CellWord) (column row : ℕ) → word_state word column row < 2
word_below_two word column row = elim (cases_Bool (row == word.row && column / 64 == word.column)) [ inl e ↦ rw e (bit_at-lt word.bits (column % 64)) | inr e ↦ rw e (omega arith) ]

-- so do words
pub state_below_two : (words : List CellWord) (column row : ℕ) → state_of_words words column row < 2
state_below_two [] column row = omega arith
state_below_two (word ∷ words) column row = omega (arith, word_below_two word column row, state_below_two words column row)

-- the columns of one more word are added
pub AddsColumns-word : (row first middle end : ℕ) (old words new : List CellWord) (word : CellWord) → first ≤ middle → middle ≤ end → AddsColumns row first middle old words → IsWordOfRun word row middle end → AddsWord word words new → AddsColumns row first end old new
AddsColumns-word row first middle end old words new word low high before run adds = record {
  within = λ column least most. adds column row ∙ elim (cases_lt column middle) [
    | inl west ↦ ap₂ max (run.outside column row (λ same from below. none_between column middle from west)) (before.within column least west)
    | inr from ↦ rw (run.within column from most) (omega (arith, state_below_two words column row))
  ];
  outside = λ column other out. rw (adds column other, run.outside column other (λ same from below. out same (omega (arith, from, low)) below), before.outside column other (λ same from below. out same from (omega (arith, below, high)))) (omega arith);
}

-- beside a run a cell is as it was
other_cell : (at : Point) (length row first : ℕ) (old new : List CellWord) → AddsColumns row first (first + length) old new → pos row ≡ at.y +ℤ reach → pos first ≡ at.x +ℤ reach → (x y : ℤ) → ((n : ℕ) → n < length → x ≡ at.x +ℤ pos n → y ≡ at.y → ⊥) → (column other : ℤ) → column ≡ x +ℤ reach → other ≡ y +ℤ reach → state_from_corner new column other ≡ state_from_corner old column other
other_cell at length row first old new adds is_row is_first x y out (pos column) (pos other) is_column is_other =
    adds.outside column other (λ same least most. out (column - first) (omega (arith, most, least)) (omega (arith, ints, is_first, is_column, least)) (omega (arith, ints, is_row, is_other, same)))
other_cell at length row first old new adds is_row is_first x y out (pos column) (negsuc other) is_column is_other = refl
other_cell at length row first old new adds is_row is_first x y out (negsuc column) other is_column is_other = refl

-- the columns of a run are its cells
pub AddsRun-columns : (at : Point) (length row first : ℕ) (old new : List CellWord) → pos row ≡ at.y +ℤ reach → pos first ≡ at.x +ℤ reach → AddsColumns row first (first + length) old new → AddsRun at length old new
AddsRun-columns at length row first old new is_row is_first adds = record {
  run = λ n below.
      let column : (at.x +ℤ pos n) +ℤ reach ≡ pos (first + n) = omega (arith, ints, is_first) in
      rw (column, sym is_row) (adds.within (first + n) (omega arith) (omega (arith, below)));
  other = λ x y out. other_cell at length row first old new adds is_row is_first x y out (x +ℤ reach) (y +ℤ reach) refl refl;
}
