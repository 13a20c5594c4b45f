-- Bricks and words: the bytes of words are parts of the rows of bricks.
use Rattle.std.proofs.Common.{◌≡◌, ℕ, ◌+◌, ◌-◌, ◌*◌, ◌/◌, ◌%◌, ◌<◌, ◌≢◌, inl, inr, List, map, length, set, sym, ap, ap₂, subst, ◌∙◌, arith}
use Rattle.std.specs.Prelude.{ℤ, pos, ◌+ℤ◌, slice_index}
use Rattle.std.specs.Int.{bit_at, w64, from_le_bytes}
use Rattle.std.specs.List.{range_with_len}
use Rattle.std.proofs.lemmas.Int.{ints}
use Rattle.std.proofs.lemmas.List.{get_or-set_same, get_or-set_other, length-set}
use Rattle.std.proofs.Math.Nat.{div-add-mod, mod-lt}
use Rattle.ca_plane.specs.Prelude.{row_cells, word_cells}
use Rattle.ca_plane.proofs.Numbers.{below_or_not}
use Rattle.ca_bricks.specs.Prelude.{WordShows, byte_of, BrickShows}
use Rattle.ca_bricks.proofs.Words.{byte_bit, byte_bit_at, byte_low, made_byte}

-- ---- rows of words

-- a row that is made of a byte of each of eight words has their cells
pub made_row : (words bytes : List ℕ) (row y : ℕ) → bytes ≡ map (λ i. byte_of (slice_index words i) y) (range_with_len 0 8) → row ≡ from_le_bytes w64 bytes
    → (i x : ℕ) → i < 8 → x < 8 → bit_at row (8 * i + x) ≡ word_cells (slice_index words i) x y
made_row words bytes row y e made i x low_i low_x =
    sym (byte_bit_at row i x low_x) ∙ ap (λ n. bit_at n x) (made_byte (λ i. byte_of (slice_index words i) y) (λ i. byte_low (slice_index words i) y) bytes row i e made low_i)
    ∙ byte_bit (slice_index words i) y x low_x

-- ---- bricks of words

-- the row of a brick has the cells of row y of eight words
pub record HasRowOf (rows : List ℕ) (k : ℕ) (words : List ℕ) (y : ℕ) : Type 0 where
  pub cells : (i x : ℕ) → i < 8 → x < 8 → row_cells rows (8 * i + x) k ≡ word_cells (slice_index words i) x y

-- `count` of its rows in the north, and as many in the south, have the cells of two rows of words
pub record HasRowsOf (rows north south : List ℕ) (count : ℕ) : Type 0 where
  pub long : length rows ≡ 16
  pub in_north : (y : ℕ) → y < count → HasRowOf rows y north y
  pub in_south : (y : ℕ) → y < count → HasRowOf rows (8 + y) south y

-- a row that is what it was in other rows, and one that was made
row_stays : (old new words : List ℕ) (k y : ℕ) → slice_index new k ≡ slice_index old k → HasRowOf old k words y → HasRowOf new k words y
row_stays old new words k y same has = record { cells = λ i x low_i low_x. ap (λ r. bit_at r (8 * i + x)) same ∙ has.cells i x low_i low_x }

row_comes : (rows words : List ℕ) (row k y : ℕ) → slice_index rows k ≡ row → ((i x : ℕ) → i < 8 → x < 8 → bit_at row (8 * i + x) ≡ word_cells (slice_index words i) x y) → HasRowOf rows k words y
row_comes rows words row k y here made = record { cells = λ i x low_i low_x. ap (λ r. bit_at r (8 * i + x)) here ∙ made i x low_i low_x }

-- one row more in the north and one in the south
module _ (rows north south : List ℕ) (y r s : ℕ) (has : HasRowsOf rows north south y) (low : y < 8)
    (made_r : (i x : ℕ) → i < 8 → x < 8 → bit_at r (8 * i + x) ≡ word_cells (slice_index north i) x y)
    (made_s : (i x : ℕ) → i < 8 → x < 8 → bit_at s (8 * i + x) ≡ word_cells (slice_index south i) x y) where
  other_row : (k : ℕ) → k ≢ y → k ≢ 8 + y → slice_index (set (set rows y r) (8 + y) s) k ≡ slice_index rows k
  other_row k not_north not_south = get_or-set_other (set rows y r) (8 + y) k s 0 not_south ∙ get_or-set_other rows y k r 0 not_north

  north_row : HasRowOf (set (set rows y r) (8 + y) s) y north y
  north_row = row_comes (set (set rows y r) (8 + y) s) north r y y
      (get_or-set_other (set rows y r) (8 + y) y s 0 (omega arith) ∙ get_or-set_same rows y r 0 (omega (arith, low, has.long))) made_r

  south_row : HasRowOf (set (set rows y r) (8 + y) s) (8 + y) south y
  south_row = row_comes (set (set rows y r) (8 + y) s) south s (8 + y) y (get_or-set_same (set rows y r) (8 + y) s 0 (omega (arith, low, has.long, length-set rows y r))) made_s

  pub rows_more : HasRowsOf (set (set rows y r) (8 + y) s) north south (y + 1)
  rows_more = record {
    long = length-set (set rows y r) (8 + y) s ∙ length-set rows y r ∙ has.long;
    in_north = λ k few. elim (below_or_not k y) [
      | inl before ↦ row_stays rows _ north k k (other_row k (omega (arith, before)) (omega (arith, before))) (has.in_north k before)
      | inr behind ↦
          let here : y ≡ k = omega (arith, behind, few) in
          subst (λ k. HasRowOf (set (set rows y r) (8 + y) s) k north k) here north_row
    ];
    in_south = λ k few. elim (below_or_not k y) [
      | inl before ↦ row_stays rows _ south (8 + k) k (other_row (8 + k) (omega (arith, before, low)) (omega (arith, before))) (has.in_south k before)
      | inr behind ↦
          let here : y ≡ k = omega (arith, behind, few) in
          subst (λ k. HasRowOf (set (set rows y r) (8 + y) s) (8 + k) south k) here south_row
    ];
  }

-- what eight words show side by side is shown by their rows
row_shows : (rows words : List ℕ) (k y : ℕ) → HasRowOf rows k words y → y < 8 → (p : ℤ → ℤ → ℕ) (a b : ℤ) → ((i : ℕ) → i < 8 → WordShows (slice_index words i) p (a +ℤ pos (8 * i)) b)
    → (x : ℕ) → x < 64 → row_cells rows x k ≡ p (a +ℤ pos x) (b +ℤ pos y)
row_shows rows words k y has low_y p a b shows x low =
    let i = x / 8 in
    let d = x % 8 in
    let sum : 8 * i + d ≡ x = div-add-mod x 8 in
    let few : d < 8 = mod-lt x (omega arith) in
    let low_i : i < 8 = omega (arith, sum, low) in
    let u : (a +ℤ pos (8 * i)) +ℤ pos d ≡ a +ℤ pos x = omega (arith, ints, sum) in
    ap (λ n. row_cells rows n k) (sym sum) ∙ has.cells i d low_i few ∙ (shows i low_i).looks d y few low_y ∙ ap (λ u. p u (b +ℤ pos y)) u

-- the brick of two rows of eight words shows what they show
pub brick_made : (rows north south : List ℕ) → HasRowsOf rows north south 8 → (p : ℤ → ℤ → ℕ) (a b : ℤ)
    → ((i : ℕ) → i < 8 → WordShows (slice_index north i) p (a +ℤ pos (8 * i)) b) → ((i : ℕ) → i < 8 → WordShows (slice_index south i) p (a +ℤ pos (8 * i)) (b +ℤ pos 8)) → BrickShows rows p a b
brick_made rows north south has p a b in_north in_south = record {
  looks = λ x y low_x low_y. elim (below_or_not y 8) [
    | inl low ↦ row_shows rows north y y (has.in_north y low) low p a b in_north x low_x
    | inr high ↦
        let up : 8 + (y - 8) ≡ y = omega (arith, high) in
        let few : y - 8 < 8 = omega (arith, high, low_y) in
        let v : (b +ℤ pos 8) +ℤ pos (y - 8) ≡ b +ℤ pos y = omega (arith, ints, high) in
        ap (λ n. row_cells rows x n) (sym up) ∙ row_shows rows south (8 + (y - 8)) (y - 8) (has.in_south (y - 8) few) few p a (b +ℤ pos 8) in_south x low_x ∙ ap (p (a +ℤ pos x)) v
  ];
}

-- ---- words of a brick

-- a word that is made of a byte of each of eight rows has their cells
made_word : (rows bytes : List ℕ) (word i top : ℕ) → bytes ≡ map (λ y. byte_of (slice_index rows (top + y)) i) (range_with_len 0 8) → word ≡ from_le_bytes w64 bytes
    → (x y : ℕ) → x < 8 → y < 8 → word_cells word x y ≡ row_cells rows (8 * i + x) (top + y)
made_word rows bytes word i top e made x y low_x low_y =
    sym (byte_bit word y x low_x)
    ∙ ap (λ n. bit_at n x) (made_byte (λ y. byte_of (slice_index rows (top + y)) i) (λ y. byte_low (slice_index rows (top + y)) i) bytes word y e made low_y)
    ∙ byte_bit_at (slice_index rows (top + y)) i x low_x

-- and shows what they show
pub cut_shows : (rows bytes : List ℕ) (word i j : ℕ) → i < 8 → j < 2 → bytes ≡ map (λ y. byte_of (slice_index rows (8 * j + y)) i) (range_with_len 0 8) → word ≡ from_le_bytes w64 bytes
    → (p : ℤ → ℤ → ℕ) (a b : ℤ) → BrickShows rows p a b → WordShows word p (a +ℤ pos (8 * i)) (b +ℤ pos (8 * j))
cut_shows rows bytes word i j low_i low_j e made p a b shows = record {
  looks = λ x y low_x low_y.
      let u : a +ℤ pos (8 * i + x) ≡ (a +ℤ pos (8 * i)) +ℤ pos x = omega (arith, ints) in
      let v : b +ℤ pos (8 * j + y) ≡ (b +ℤ pos (8 * j)) +ℤ pos y = omega (arith, ints) in
      made_word rows bytes word i (8 * j) e made x y low_x low_y ∙ shows.looks (8 * i + x) (8 * j + y) (omega (arith, low_i, low_x)) (omega (arith, low_j, low_y)) ∙ ap₂ p u v;
}
