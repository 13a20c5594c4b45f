-- Tiles and words: the bits of rows and bytes.
use Rattle.std.proofs.Common.{◌≡◌, ℕ, zero, suc, ◌+◌, ◌-◌, ◌*◌, ◌/◌, ◌%◌, ◌<◌, ◌≤◌, ◌^◌, inl, inr, List, [], ◌∷◌, map, length, refl, sym, ap, ap₂, subst, ◌∙◌, arith}
use Rattle.std.specs.Prelude.{ℤ, pos, negsuc, ◌+ℤ◌, ◌-ℤ◌, slice_index, bit_or, replicate}
use Rattle.std.specs.Int.{bit_at, w64, from_le_bytes}
use Rattle.std.specs.List.{All, range_with_len}
use Rattle.std.proofs.lemmas.Int.{ints}
use Rattle.std.proofs.lemmas.Bool.{cond_below, cond_above}
use Rattle.std.proofs.Math.Nat.{pow-suc}
use Rattle.std.proofs.lemmas.Grind.{or_before_shift}
use Rattle.std.proofs.lemmas.Nat.{pow-add, mod_below}
use Rattle.std.proofs.lemmas.Nat.Bits.{bit_at-lt, bit_at_cat_low, bit_at_cat_high}
use Rattle.std.proofs.lemmas.List.{get_or-replicate}
use Rattle.std.proofs.lemmas.Simd.{length-zip2, get_or-zip2, get_or_narrower}
use Rattle.std.specs.Simd.Lanes.{zip2, digits_l, number_l}
use Rattle.std.proofs.lemmas.List.Elements.{All-from_recursion}
use Rattle.ca_plane.specs.Prelude.{around, cells_after, row_cells, word_cells, IsWithin}
use Rattle.ca_plane.proofs.Numbers.{below_or_not}
use Rattle.ca_bricks.specs.declared.{word_square.WordSquare.WordSquare, cell_rule.CellRule.CellRule}
use Rattle.ca_bricks.specs.Prelude.{tile_cell, WordSquareShows, TileShows, word_bytes_at, inner_byte, WordShows, byte_of, GoesByCells, IsTileNext}
use Rattle.ca_plane.proofs.After.{around-same, around-nine_states}
use Rattle.ca_bricks.proofs.BitRows.{bit_low}
use Rattle.ca_bricks.proofs.Words.{bit_shifted, byte_bit, byte_low, made_byte, word_of_same}
use Rattle.ca_bricks.proofs.Overlaps.{quarters_each}

-- ---- the bytes of words

-- a power of a byte's size
power_256 : (y : ℕ) → 256 ^ y ≡ 2 ^ (8 * y)
power_256 zero = refl
power_256 (suc y) =
    let e : 8 * y + 8 ≡ 8 * suc y = omega arith in
    pow-suc 256 y ∙ ap (λ n. n * 256) (power_256 y) ∙ sym (pow-add 2 (8 * y) 8) ∙ ap (λ n. 2 ^ n) e

-- the bytes of two words, one after the other
pub bytes_of_two : (north south : ℕ) → north < 2 ^ 64 → south < 2 ^ 64 → (y : ℕ) → y < 16 → slice_index (digits_l 256 16 (number_l (2 ^ 64) (north ∷ south ∷ []))) y ≡ word_bytes_at north south y
bytes_of_two north south h k y i =
    let words = north ∷ south ∷ [] in
    let narrow = λ (j : ℕ) (z : ℕ) (l : z < 8) (m : 8 * j + z < 16). get_or_narrower (2 ^ 64) 8 256 16 words j z refl (h, (k, tt)) l m in
    elim (below_or_not y 8) [
      | inl l ↦
          let e : y ≡ 8 * 0 + y = omega arith in
          ap (λ n. slice_index (digits_l 256 16 (number_l (2 ^ 64) words)) n) e ∙ narrow 0 y l (omega arith) ∙ ap (λ n. north / n % 256) (power_256 y)
          ∙ cond_below y 8 (byte_of north y) (byte_of south (y - 8)) l
      | inr l ↦
          let e : y ≡ 8 * 1 + (y - 8) = omega arith in
          ap (λ n. slice_index (digits_l 256 16 (number_l (2 ^ 64) words)) n) e ∙ narrow 1 (y - 8) (omega arith) (omega arith) ∙ ap (λ n. south / n % 256) (power_256 (y - 8))
          ∙ cond_above y 8 (byte_of north y) (byte_of south (y - 8)) (byte_of south (y - 8)) l refl
    ]

-- ---- tiles

-- rows that are joined of bytes in the west and in the east
pub joined_rows : (f g : ℕ → ℕ → ℕ) → ((a b : ℕ) → f a b ≡ bit_or a b) → ((a : ℕ) → g a 8 ≡ a * 256 % 65536) → (west east : List ℕ) → length west ≡ 16 → length east ≡ 16
    → (y : ℕ) → y < 16 → slice_index west y < 256 → slice_index east y < 256
    → slice_index (zip2 f west (zip2 g east (replicate 16 8))) y ≡ slice_index east y * 256 + slice_index west y
joined_rows f g is_or is_up west east l m y i h k =
    let shifted = zip2 g east (replicate 16 8) in
    let long : length shifted ≡ 16 = length-zip2 g east (replicate 16 8) m ∙ m in
    let up : slice_index shifted y ≡ slice_index east y * 256 % 65536 =
    get_or-zip2 g east (replicate 16 8) y 0 0 0 (omega arith) i ∙ ap (g (slice_index east y)) (get_or-replicate 16 y 8 0 i) ∙ is_up (slice_index east y) in
    get_or-zip2 f west shifted y 0 0 0 (omega arith) (omega arith) ∙ ap (f (slice_index west y)) up ∙ is_or (slice_index west y) (slice_index east y * 256 % 65536)
    ∙ or_before_shift (slice_index west y) (slice_index east y) 256 65536 refl h (omega arith)

-- the rows of four words
abbrev IsRowsOf : WordSquare → List ℕ → Type 0
IsRowsOf words rows = (y : ℕ) → y < 16 → slice_index rows y ≡ word_bytes_at words.ne words.se y * 256 + word_bytes_at words.nw words.sw y

-- a bit of a row that is joined of two bytes
bit_west : (e w x : ℕ) → x < 8 → bit_at (e * 256 + w) x ≡ bit_at w x
bit_west e w x h = bit_at_cat_low e 8 w x h

bit_east : (e w x : ℕ) → w < 256 → 8 ≤ x → bit_at (e * 256 + w) x ≡ bit_at e (x - 8)
bit_east e w x low h = bit_at_cat_high e 8 w x low h

-- the rows of four words show the plane that the words show: a row in the north, and one in the south
module _ (words : WordSquare) (rows : List ℕ) (is : IsRowsOf words rows) (p : ℤ → ℤ → ℕ) (a b : ℤ) (shows : WordSquareShows words p a b) where
  north_cells : (x y : ℕ) → x < 16 → y < 8 → row_cells rows x y ≡ p (a +ℤ pos x) (b +ℤ pos y)
  north_cells x y i m =
      let w = byte_of words.nw y in
      let e = byte_of words.ne y in
      let row : slice_index rows y ≡ e * 256 + w = is y (omega arith) ∙ ap₂ (λ a b. a * 256 + b) (sym (cond_below y 8 e (byte_of words.se (y - 8)) m)) (sym (cond_below y 8 w (byte_of words.sw (y - 8)) m)) in
      ap (λ n. bit_at n x) row
      ∙ elim (below_or_not x 8) [
        | inl l ↦ bit_west e w x l ∙ byte_bit words.nw y x l ∙ shows.at_nw.looks x y l m
        | inr l ↦
            let u : (a +ℤ pos 8) +ℤ pos (x - 8) ≡ a +ℤ pos x = omega (arith, ints) in
            bit_east e w x (byte_low words.nw y) l ∙ byte_bit words.ne y (x - 8) (omega arith) ∙ shows.at_ne.looks (x - 8) y (omega arith) m ∙ ap (λ t. p t (b +ℤ pos y)) u
      ]

  south_cells : (x y : ℕ) → x < 16 → 8 ≤ y → y < 16 → row_cells rows x y ≡ p (a +ℤ pos x) (b +ℤ pos y)
  south_cells x y i m j =
      let w = byte_of words.sw (y - 8) in
      let e = byte_of words.se (y - 8) in
      let row : slice_index rows y ≡ e * 256 + w =
      is y j ∙ ap₂ (λ a b. a * 256 + b) (sym (cond_above y 8 (byte_of words.ne y) e e m refl)) (sym (cond_above y 8 (byte_of words.nw y) w w m refl)) in
      let v : (b +ℤ pos 8) +ℤ pos (y - 8) ≡ b +ℤ pos y = omega (arith, ints) in
      ap (λ n. bit_at n x) row
      ∙ elim (below_or_not x 8) [
        | inl l ↦ bit_west e w x l ∙ byte_bit words.sw (y - 8) x l ∙ shows.at_sw.looks x (y - 8) l (omega arith) ∙ ap (λ t. p (a +ℤ pos x) t) v
        | inr l ↦
            let u : (a +ℤ pos 8) +ℤ pos (x - 8) ≡ a +ℤ pos x = omega (arith, ints) in
            bit_east e w x (byte_low words.sw (y - 8)) l ∙ byte_bit words.se (y - 8) (x - 8) (omega arith) ∙ shows.at_se.looks (x - 8) (y - 8) (omega arith) (omega arith) ∙ ap₂ p u v
      ]

  tile_shows : TileShows rows 0 p a b
  tile_shows = record { looks = λ x y _ i _ j. elim (below_or_not y 8) [ inl m ↦ north_cells x y (omega arith) m | inr m ↦ south_cells x y (omega arith) m (omega arith) ] }

bytes_low : (north south y : ℕ) → word_bytes_at north south y < 256
bytes_low north south y = elim (below_or_not y 8) [
  | inl l ↦ subst (λ n. n < 256) (cond_below y 8 (byte_of north y) (byte_of south (y - 8)) l) (byte_low north y)
  | inr l ↦ subst (λ n. n < 256) (cond_above y 8 (byte_of north y) (byte_of south (y - 8)) (byte_of south (y - 8)) l refl) (byte_low south (y - 8))
]

-- and so does what is joined of their bytes
pub joined_shows : (f g : ℕ → ℕ → ℕ) → ((a b : ℕ) → f a b ≡ bit_or a b) → ((a : ℕ) → g a 8 ≡ a * 256 % 65536) → (words : WordSquare) (west east : List ℕ) → length west ≡ 16 → length east ≡ 16
    → ((y : ℕ) → y < 16 → slice_index west y ≡ word_bytes_at words.nw words.sw y) → ((y : ℕ) → y < 16 → slice_index east y ≡ word_bytes_at words.ne words.se y)
    → (p : ℤ → ℤ → ℕ) (a b : ℤ) → WordSquareShows words p a b → TileShows (zip2 f west (zip2 g east (replicate 16 8))) 0 p a b
joined_shows f g is_or is_up words west east l m are_west are_east p a b shows = tile_shows words (zip2 f west (zip2 g east (replicate 16 8))) (λ y i.
    let h : slice_index west y < 256 = omega (arith, are_west y i, bytes_low words.nw words.sw y) in
    let k : slice_index east y < 256 = omega (arith, are_east y i, bytes_low words.ne words.se y) in
    joined_rows f g is_or is_up west east l m y i h k ∙ ap₂ (λ a b. a * 256 + b) (are_east y i) (are_west y i)) p a b shows

-- ---- the middle of a tile

-- a word that is made of the bytes in the middle of a tile shows the cells there
middle_byte : (rows bytes : List ℕ) (word y : ℕ) → bytes ≡ map (inner_byte rows) (range_with_len 0 8) → word ≡ from_le_bytes w64 bytes → y < 8 → byte_of word y ≡ inner_byte rows y
middle_byte rows = made_byte (inner_byte rows) (λ i. mod_below (slice_index rows (4 + i) / 16) 256 (omega arith))

middle_cells : (rows bytes : List ℕ) (word : ℕ) → bytes ≡ map (inner_byte rows) (range_with_len 0 8) → word ≡ from_le_bytes w64 bytes → (x y : ℕ) → x < 8 → y < 8
    → word_cells word x y ≡ row_cells rows (4 + x) (4 + y)
middle_cells rows bytes word e f x y i j =
    let row = slice_index rows (4 + y) in
    sym (byte_bit word y x i) ∙ ap (λ n. bit_at n x) (middle_byte rows bytes word y e f j) ∙ bit_low (row / 16) 8 x i ∙ bit_shifted row 4 x

pub middle_shows : (rows bytes : List ℕ) (word : ℕ) → bytes ≡ map (inner_byte rows) (range_with_len 0 8) → word ≡ from_le_bytes w64 bytes → (p : ℤ → ℤ → ℕ) (a b : ℤ) → TileShows rows 4 p a b
    → WordShows word p (a +ℤ pos 4) (b +ℤ pos 4)
middle_shows rows bytes word e f p a b shows = record {
  looks = λ x y i j.
      let u : a +ℤ pos (4 + x) ≡ (a +ℤ pos 4) +ℤ pos x = omega (arith, ints) in
      let v : b +ℤ pos (4 + y) ≡ (b +ℤ pos 4) +ℤ pos y = omega (arith, ints) in
      middle_cells rows bytes word e f x y i j ∙ shows.looks (4 + x) (4 + y) (omega arith) (omega arith) (omega arith) (omega arith) ∙ ap₂ p u v;
}

-- ---- generations

-- a cell of a tile is 0 or 1
tile_bit : (rows : List ℕ) (x y : ℤ) → tile_cell rows x y < 2
tile_bit rows (pos x) (pos y) = bit_at-lt (slice_index rows y) x
tile_bit rows (pos x) (negsuc y) = omega arith
tile_bit rows (negsuc x) y = omega arith

around_bits : (rows : List ℕ) (x y : ℤ) → All (λ s. s < 2) (around (tile_cell rows) x y)
around_bits rows x y = All-from_recursion (λ s. s < 2) (around (tile_cell rows) x y) (
  tile_bit rows (x -ℤ pos 1) (y -ℤ pos 1),
  (
    tile_bit rows x (y -ℤ pos 1),
    (
      tile_bit rows (x +ℤ pos 1) (y -ℤ pos 1),
      (
        tile_bit rows (x -ℤ pos 1) y,
        (
          tile_bit rows x y,
          (
            tile_bit rows (x +ℤ pos 1) y,
            (tile_bit rows (x -ℤ pos 1) (y +ℤ pos 1), (tile_bit rows x (y +ℤ pos 1), (tile_bit rows (x +ℤ pos 1) (y +ℤ pos 1), tt))),
          ),
        ),
      ),
    ),
  ),
)

-- what shows a plane in the middle shows it there where the margin is wider
pub tile_less : (rows : List ℕ) (m n : ℕ) (p : ℤ → ℤ → ℕ) (a b : ℤ) → m ≤ n → TileShows rows m p a b → TileShows rows n p a b
tile_less rows m n p a b few shows = record { looks = λ x y i j k l. shows.looks x y (omega arith) (omega arith) (omega arith) (omega arith) }

-- a generation of the tile is one of the plane, but for one more row and column at each side
module _ (next : List ℕ → ℕ) (rule : CellRule) (goes_by : GoesByCells next rule) (old new : List ℕ) (made : IsTileNext rule old new) where
  pub tile_goes_on : (m : ℕ) (p : ℤ → ℤ → ℕ) (a b : ℤ) → TileShows old m (cells_after next p m) a b → TileShows new (suc m) (cells_after next p (suc m)) a b
  tile_goes_on m p a b shows = record {
    looks = λ x y i j k l.
        made (pos x) (pos y) (omega (arith, ints), omega (arith, ints), omega (arith, ints), omega (arith, ints))
        ∙ sym (goes_by.goes_by (around (tile_cell old) (pos x) (pos y)) refl (around_bits old (pos x) (pos y)))
        ∙ ap next (around-same (tile_cell old) (λ u v. cells_after next p m (a +ℤ u) (b +ℤ v)) (pos x) (pos y) (λ u v round. inside x y i j k l u v round)
        ∙ around-nine_states (cells_after next p m) a b (pos x) (pos y));
  }
    where
      inside : (x y : ℕ) → suc m ≤ x → x + suc m < 16 → suc m ≤ y → y + suc m < 16 → (u v : ℤ) → IsWithin 1 (pos x) (pos y) u v → tile_cell old u v ≡ cells_after next p m (a +ℤ u) (b +ℤ v)
      inside x y i j k l (pos u) (pos v) round = shows.looks u v (omega (arith, ints, round)) (omega (arith, ints, round)) (omega (arith, ints, round)) (omega (arith, ints, round))
      inside x y i j k l (pos u) (negsuc v) round = absurd (omega (arith, ints, round))
      inside x y i j k l (negsuc u) v round = absurd (omega (arith, ints, round))

-- ---- planes with the same cells

-- words that show a plane show each with the same cells
pub words_of_same : (words : WordSquare) (p q : ℤ → ℤ → ℕ) (a b : ℤ) → ((x y : ℤ) → p x y ≡ q x y) → WordSquareShows words p a b → WordSquareShows words q a b
words_of_same words p q a b same h =
    quarters_each _ _ _ _ _ _ h (λ u v. word_of_same words.nw p q u v same) (λ u v. word_of_same words.ne p q u v same) (λ u v. word_of_same words.sw p q u v same) (λ u v. word_of_same words.se p q u v same)
