-- Cells that are written.
use Rattle.std.proofs.Common.{◌≡◌, ℕ, ◌<◌, ℤ, pos, negsuc, ◌+ℤ◌, List, ◌∷◌, Bool, Result, Ok, Err, IfOk, IsTrue, sym, subst, ◌∙◌, arith}
use Rattle.std.specs.List.{list_all}
use Rattle.ca_plane.specs.Prelude.{is_word_byte, IsWord, bit_cell, state_from_corner, reach}
use Rattle.ca_plane.specs.declared.bit_plane.CellWord.{CellWord}
use Rattle.ca_plane.proofs.BitPlanes.{state_below_two}

-- ---- states

-- the cells of words have the states 0 and 1
state_low : (words : List CellWord) (column row : ℤ) → state_from_corner words column row < 2
state_low words (pos column) (pos row) = state_below_two words column row
state_low words (pos column) (negsuc row) = omega arith
state_low words (negsuc column) row = omega arith

pub bits_low : (words : List CellWord) (x y : ℤ) → bit_cell words x y < 2
bits_low words x y = state_low words (x +ℤ reach) (y +ℤ reach)

-- ---- words, and what is said of results

pub word_test : (bytes : List ℕ) (b : ℕ) (bs : List ℕ) (r : Bool) → bytes ≡ b ∷ bs → r ≡ list_all is_word_byte bytes → (IsTrue r → IsWord bytes) × (IsWord bytes → IsTrue r)
word_test bytes b bs r is e =
    let same : r ≡ list_all is_word_byte (b ∷ bs) = subst (λ l. r ≡ list_all is_word_byte l) is e in
    (λ h. subst IsWord (sym is) (sym same ∙ h), λ h. same ∙ subst IsWord is h)

pub ok_as : {T E : Type 0} (r : Result T E) (P Q : T → Type 0) → ((t : T) → P t → Q t) → IfOk r P → IfOk r Q
ok_as (Ok t) P Q also h = also t h
ok_as (Err e) P Q also h = tt
