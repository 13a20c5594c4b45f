-- Eight rows of cells are the bytes of a word.
use Rattle.std.proofs.Common.{◌≡◌, ℕ, zero, suc, slice_index, ◌+◌, ◌*◌, ◌/◌, ◌%◌, ◌<◌, ◌^◌, Result, Ok, Err, IfOk, List, w64, refl, sym, ap, subst, ◌∙◌, arith}
use Rattle.std.specs.Int.{bit_at, bytes_low_first, to_le_bytes}
use Rattle.std.proofs.lemmas.Nat.{shr-shr, shr_split}
use Rattle.std.proofs.lemmas.Nat.Bits.{bit_at_cat_low}
use Rattle.ca_quad.specs.declared.node.Node.{Node}
use Rattle.ca_quad.specs.Prelude.{ShowsSquare}
use Rattle.ca_plane.specs.Prelude.{row_cells, word_cells}
use Rattle.ca_quad.proofs.Windows.{rows_end}
use Rattle.ca_quad.proofs.Words.{are_word_cells}

-- the bits of a part of a number
pub part_bit : (n first size i : ℕ) → i < size → bit_at (n / 2 ^ first % 2 ^ size) i ≡ bit_at n (first + i)
part_bit n first size i h =
    let m = n / 2 ^ first in
    sym (bit_at_cat_low (m / 2 ^ size) size (m % 2 ^ size) i h) ∙ ap (λ l. bit_at l i) (shr_split m size) ∙ ap (λ l. l % 2) (shr-shr n first i)

-- those of a byte
byte_bit : (n y x : ℕ) → x < 8 → bit_at (n / 2 ^ (8 * y) % 256) x ≡ bit_at n (8 * y + x)
byte_bit n y x h = part_bit n (8 * y) 8 x h

byte_bits : (n x y : ℕ) → x < 8 → y < 8 → bit_at (slice_index (to_le_bytes w64 n) y) x ≡ bit_at n (8 * y + x)
byte_bits n x zero h i = let e : n / 1 ≡ n = omega arith in subst (λ m. bit_at (m % 256) x ≡ bit_at n (8 * 0 + x)) e (byte_bit n 0 x h)
byte_bits n x (suc zero) h i = byte_bit n 1 x h
byte_bits n x (suc (suc zero)) h i = byte_bit n 2 x h
byte_bits n x (suc (suc (suc zero))) h i = byte_bit n 3 x h
byte_bits n x (suc (suc (suc (suc zero)))) h i = byte_bit n 4 x h
byte_bits n x (suc (suc (suc (suc (suc zero))))) h i = byte_bit n 5 x h
byte_bits n x (suc (suc (suc (suc (suc (suc zero)))))) h i = byte_bit n 6 x h
byte_bits n x (suc (suc (suc (suc (suc (suc (suc zero))))))) h i = byte_bit n 7 x h
byte_bits n x (suc (suc (suc (suc (suc (suc (suc (suc y)))))))) h i = absurd (omega arith)

-- each is below 256
byte_below : (k i n y : ℕ) → slice_index (bytes_low_first i k n) y < 256
byte_below zero i n y = omega arith
byte_below (suc k) zero n zero = omega arith
byte_below (suc k) (suc i) n zero = omega arith
byte_below (suc k) i n (suc y) = byte_below k (suc i) n y

pub rows_of_word : (rows : List ℕ) (word : ℕ) → to_le_bytes w64 word ≡ rows → word < 2 ^ 64 → (x y : ℕ) → row_cells rows x y ≡ word_cells word x y
rows_of_word rows word e low x y =
    let bytes = to_le_bytes w64 word in
    sym (ap (λ rows. row_cells rows x y) e)
    ∙ are_word_cells word (row_cells bytes) low (rows_end bytes refl (byte_below 8 0 word)) (λ x y h i. byte_bits word x y h i) x y

-- a square that shows a word shows its rows
pub shows_rows : {E : Type 0} (nodes : List Node) (r : Result ℕ E) (rows : List ℕ) (word : ℕ) → ((x y : ℕ) → row_cells rows x y ≡ word_cells word x y)
    → IfOk r (λ id. ShowsSquare nodes id 3 (word_cells word)) → IfOk r (λ id. ShowsSquare nodes id 3 (row_cells rows))
shows_rows nodes (Ok id) rows word same h = record { is_square = h.is_square; has_cells = λ x y. h.has_cells x y ∙ sym (same x y) }
shows_rows nodes (Err e) rows word same h = tt
