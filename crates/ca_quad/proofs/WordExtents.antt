-- The smallest box round the live cells of a word.
use Rattle.std.proofs.Common.{◌≡◌, ◌≢◌, ℕ, zero, suc, ◌+◌, ◌-◌, ◌*◌, ◌/◌, ◌%◌, ◌^◌, ◌<◌, ◌≤◌, max, inl, inr, refl, sym, ap, subst, ◌∙◌, arith, List, Option, Some, None, w64}
use Rattle.std.specs.Prelude.{bit_and, bit_or}
use Rattle.std.specs.Int.{bit_at, trailing_zeros, leading_zeros}
use Rattle.std.proofs.lemmas.Nat.{leading_top}
use Rattle.std.proofs.lemmas.Bool.{cond_below, cond_above}
use Rattle.std.proofs.lemmas.Nat.Bits.{bit_at-zero, bit_at-lt, bit_at_and, bit_at_or, bit_at_above, bit_at_ones, bit_at_ones_above, bit_at_cat_high, bit_at-trailing_zeros}
use Rattle.ca_quad.specs.Prelude.{IsEmpty, IsOf, cell_of, level_of, level, IsSoundStore}
use Rattle.ca_plane.specs.Prelude.{word_cells}
use Rattle.ca_quad.specs.declared.{store.extent.Extent.Extent, store.word_extent.BitEnds.BitEnds, node.Node.Node}
use Rattle.ca_quad.specs.inner.Numbered.{IsNumberOfNode}
use Rattle.ca_quad.specs.inner.Bits.{place}
use Rattle.ca_quad.specs.inner.Extent.{IsExtent, IsSquareExtent}
use Rattle.ca_quad.specs.inner.WordExtent.{AreEnds, AreColumns}
use Rattle.ca_quad.proofs.Bits.{down_shift}
use Rattle.ca_plane.proofs.Numbers.{below_or_not}
use Rattle.ca_quad.proofs.Words.{is_word}

-- ---- the ends

-- the highest digit of a number
high_bit : (n j : ℕ) → 2 ^ j ≤ n → n < 2 ^ suc j → bit_at n j ≡ 1
high_bit n j low high =
    let rest : n ≡ 1 * 2 ^ j + (n - 2 ^ j) = omega (arith, low) in
    let few : n - 2 ^ j < 2 ^ j = omega (arith, low, high) in
    let no_word_cells : j - j ≡ 0 = omega arith in
    ap (λ m. bit_at m j) rest ∙ bit_at_cat_high 1 j (n - 2 ^ j) j few (omega arith) ∙ ap (bit_at 1) no_word_cells

pub are_ends : (word : ℕ) → 0 < word → word < 2 ^ 64 → AreEnds word (record { first = trailing_zeros w64 word; last = 63 - leading_zeros w64 word })
are_ends word some fits =
    let lowest = bit_at-trailing_zeros w64 word some fits in
    let highest = leading_top 64 word some fits in
    let j = highest.0 in
    let last : 63 - leading_zeros w64 word ≡ j = omega (arith, highest.1) in
    record {
      first = lowest.1;
      last = ap (bit_at word) last ∙ high_bit word j highest.2 highest.3;
      within = λ i one. (first_le i one, last_le j last highest.3 i one);
      low = omega arith;
    }
  where
    first_le : (i : ℕ) → bit_at word i ≡ 1 → trailing_zeros w64 word ≤ i
    first_le i one = elim (below_or_not i (trailing_zeros w64 word)) [
      | inl h ↦ let no_word_cells = (bit_at-trailing_zeros w64 word some fits).2 i h in absurd (omega (arith, no_word_cells, one))
      | inr h ↦ h
    ]

    last_le : (j : ℕ) → 63 - leading_zeros w64 word ≡ j → word < 2 ^ suc j → (i : ℕ) → bit_at word i ≡ 1 → i ≤ 63 - leading_zeros w64 word
    last_le j last low i one = elim (below_or_not j i) [
      | inl h ↦ let no_word_cells = bit_at_above word (suc j) i low (omega arith) in absurd (omega (arith, no_word_cells, one))
      | inr h ↦ omega (arith, last, h)
    ]

-- ---- the columns

-- a word and the same moved down by s bits
abbrev over : ℕ → ℕ → ℕ
over s n = bit_or n (n / 2 ^ s)

over_at : (s n i : ℕ) → bit_at (over s n) i ≡ max (bit_at n i) (bit_at n (i + s))
over_at s n i = bit_at_or n (n / 2 ^ s) i ∙ ap (max (bit_at n i)) (down_shift n s i)

-- a bit of it is the number's there, or the one so far above
over_all : (s n i b : ℕ) → b < 2 → bit_at n (i + b * s) ≡ 1 → bit_at (over s n) i ≡ 1
over_all s n i zero h one =
    let e : i + 0 * s ≡ i = omega arith in
    let here = ap (bit_at n) (sym e) ∙ one in
    omega (arith, over_at s n i, here, bit_at-lt n (i + s))
over_all s n i (suc zero) h one =
    let e : i + 1 * s ≡ i + s = omega arith in
    let there = ap (bit_at n) (sym e) ∙ one in
    omega (arith, over_at s n i, there, bit_at-lt n i)
over_all s n i (suc (suc b)) h one = absurd (omega arith)

over_only : (s n i : ℕ) → bit_at (over s n) i ≡ 1 → (b : ℕ) × (b < 2) × (bit_at n (i + b * s) ≡ 1)
over_only s n i one = elim (below_or_not 0 (bit_at n i)) [
  | inl h ↦
      let e : i + 0 * s ≡ i = omega arith in
      (0, omega arith, ap (bit_at n) e ∙ omega (arith, h, bit_at-lt n i))
  | inr h ↦
      let e : i + 1 * s ≡ i + s = omega arith in
      (1, omega arith, ap (bit_at n) e ∙ omega (arith, h, one, over_at s n i))
]

pub are_columns : (word : ℕ) → AreColumns word (bit_and (over 8 (over 16 (over 32 word))) 255)
are_columns word = record { all = all; only = only }
  where
    quarters : ℕ
    quarters = over 16 (over 32 word)

    all : (x y : ℕ) → x < 8 → y < 8 → bit_at word (8 * y + x) ≡ 1 → bit_at (bit_and (over 8 quarters) 255) x ≡ 1
    all x y h k one =
        let same : x + y % 2 * 8 + y / 2 % 2 * 16 + y / 4 * 32 ≡ 8 * y + x = omega arith in
        let a = over_all 32 word (x + y % 2 * 8 + y / 2 % 2 * 16) (y / 4) (omega arith) (ap (bit_at word) same ∙ one) in
        let b = over_all 16 (over 32 word) (x + y % 2 * 8) (y / 2 % 2) (omega arith) a in
        let c = over_all 8 quarters x (y % 2) (omega arith) b in
        omega (arith, bit_at_and (over 8 quarters) 255 x, c, bit_at_ones 8 x h)

    found : (x : ℕ) → bit_at (over 8 quarters) x ≡ 1 → (y : ℕ) × (y < 8) × (bit_at word (8 * y + x) ≡ 1)
    found x one =
        let a = over_only 8 quarters x one in
        let b = over_only 16 (over 32 word) (x + a.0 * 8) a.2 in
        let c = over_only 32 word (x + a.0 * 8 + b.0 * 16) b.2 in
        let same : 8 * (a.0 + 2 * b.0 + 4 * c.0) + x ≡ x + a.0 * 8 + b.0 * 16 + c.0 * 32 = omega arith in
        (a.0 + 2 * b.0 + 4 * c.0, omega (arith, a.1, b.1, c.1), ap (bit_at word) same ∙ c.2)

    only : (x : ℕ) → bit_at (bit_and (over 8 quarters) 255) x ≡ 1 → (x < 8) × ((y : ℕ) × (y < 8) × (bit_at word (8 * y + x) ≡ 1))
    only x one = elim (below_or_not x 8) [
      | inl h ↦ (h, found x (omega (arith, bit_at_and (over 8 quarters) 255 x, one, bit_at-lt (over 8 quarters) x)))
      | inr h ↦ absurd (omega (arith, bit_at_and (over 8 quarters) 255 x, one, bit_at_ones_above 8 x h))
    ]

-- ---- the box

-- a live cell of a word is a bit that is 1
live_bit : (word x y : ℕ) → word_cells word x y ≢ 0 → (x < 8) × (bit_at word (8 * y + x) ≡ 1)
live_bit word x y live = elim (below_or_not x 8) [
  | inl h ↦ elim (below_or_not 0 (bit_at word (8 * y + x))) [
    | inl some ↦ (h, omega (arith, some, bit_at-lt word (8 * y + x)))
    | inr no_word_cells ↦ let dead : bit_at word (8 * y + x) ≡ 0 = omega arith in absurd (live (sym (cond_below x 8 (bit_at word (8 * y + x)) 0 h) ∙ dead))
  ]
  | inr h ↦ absurd (live (sym (cond_above x 8 (bit_at word (8 * y + x)) 0 0 h refl)))
]

bit_live : (word x y : ℕ) → x < 8 → bit_at word (8 * y + x) ≡ 1 → word_cells word x y ≢ 0
bit_live word x y h one z = let dead = cond_below x 8 (bit_at word (8 * y + x)) 0 h ∙ z in absurd (omega (arith, one, dead))

bit_alive : (word i : ℕ) → bit_at word i ≡ 1 → word_cells word (i % 8) (i / 8) ≢ 0
bit_alive word i one =
    let same : 8 * (i / 8) + i % 8 ≡ i = omega arith in
    bit_live word (i % 8) (i / 8) (omega arith) (ap (bit_at word) same ∙ one)

pub word_box : (word columns : ℕ) (across cells : BitEnds) → AreColumns word columns → AreEnds columns across → AreEnds word cells
    → IsExtent (word_cells word) 8 8 (record { left = across.first; top = cells.first / 8; right = across.last; bottom = cells.last / 8 })
word_box word columns across cells are ends_across ends =
    let west = are.only across.first ends_across.first in
    let east = are.only across.last ends_across.last in
    record {
      all = λ x y live.
          let bit = live_bit word x y live in
          let within = ends.within (8 * y + x) bit.1 in
          let column = ends_across.within x (are.all x y bit.0 (omega (arith, ends.low, within.1)) bit.1) in
          (column.0, column.1, omega (arith, within.0, bit.0), omega (arith, within.1));
      left = (west.1.0, bit_live word across.first west.1.0 west.0 west.1.2);
      right = (east.1.0, bit_live word across.last east.1.0 east.0 east.1.2);
      top = (cells.first % 8, bit_alive word cells.first ends.first);
      bottom = (cells.last % 8, bit_alive word cells.last ends.last);
      is_right = east.0;
      is_bottom = omega (arith, ends.low);
    }

-- a word with a live cell has a column with one
pub some_column : (word columns : ℕ) → 0 < word → word < 2 ^ 64 → AreColumns word columns → 0 < columns
some_column word columns some fits are =
    let ends = are_ends word some fits in
    let i = trailing_zeros w64 word in
    let low = (bit_at-trailing_zeros w64 word some fits).0 in
    let same : 8 * (i / 8) + i % 8 ≡ i = omega arith in
    let one = are.all (i % 8) (i / 8) (omega arith) (omega (arith, low)) (ap (bit_at word) same ∙ ends.first) in
    elim (below_or_not 0 columns) [
      | inl h ↦ h
      | inr h ↦ let zero_columns : columns ≡ 0 = omega arith in absurd (omega (arith, one, ap (λ n. bit_at n (i % 8)) zero_columns ∙ bit_at-zero (i % 8)))
    ]

-- and one with none is empty
pub no_word_cells : IsEmpty (word_cells 0)
no_word_cells x y = elim (below_or_not x 8) [
  | inl h ↦ sym (cond_below x 8 (bit_at 0 (8 * y + x)) 0 h) ∙ bit_at-zero (8 * y + x)
  | inr h ↦ sym (cond_above x 8 (bit_at 0 (8 * y + x)) 0 0 h refl)
]

-- ---- a block

-- the box of the same cells
module _ (f g : ℕ → ℕ → ℕ) (same : (x y : ℕ) → f x y ≡ g x y) (columns rows : ℕ) where
  live_too : (x y : ℕ) → g x y ≢ 0 → f x y ≢ 0
  live_too x y live z = live (sym (same x y) ∙ z)

  pub extent_as : (found : Option Extent) → IsSquareExtent g columns rows found → IsSquareExtent f columns rows found
  extent_as None no_word_cells = λ x y. same x y ∙ no_word_cells x y
  extent_as (Some box) is = record {
    all = λ x y live. is.all x y (λ z. live (same x y ∙ z));
    left = (is.left.0, live_too box.left is.left.0 is.left.1);
    right = (is.right.0, live_too box.right is.right.0 is.right.1);
    top = (is.top.0, live_too is.top.0 box.top is.top.1);
    bottom = (is.bottom.0, live_too is.bottom.0 box.bottom is.bottom.1);
    is_right = is.is_right;
    is_bottom = is.is_bottom;
  }

-- a square whose number is at least 65536 has 8 by 8 cells
block_level : (nodes : List Node) (id n m : ℕ) → 65536 ≤ n → IsNumberOfNode nodes id n → level_of nodes id ≡ m → 3 ≡ m
block_level nodes id n m large (inl tiny) is = absurd (omega (arith, large, tiny.0))
block_level nodes id n m large (inr (inl small)) is = absurd (omega (arith, large, small.0))
block_level nodes id n m large (inr (inr block)) is = sym (ap level block.1) ∙ is

-- so the box of its word is its own
pub block_extent : (nodes : List Node) → IsSoundStore nodes → (id n word : ℕ) → 65536 ≤ n → IsNumberOfNode nodes id n → word < 2 ^ 64
    → ((x y : ℕ) → x < 8 → y < 8 → bit_at n (place 3 x y) ≡ bit_at word (8 * y + x)) → (found : Option Extent) → IsSquareExtent (word_cells word) 8 8 found
    → (m : ℕ) → IsOf nodes id m → IsSquareExtent (cell_of nodes m id) (2 ^ m) (2 ^ m) found
block_extent nodes sound id n word large number fits same found box m is =
    let three = block_level nodes id n m large number is.is_level in
    let own : IsOf nodes id 3 = record { before = is.before; is_level = is.is_level ∙ sym three } in
    subst (λ k. IsSquareExtent (cell_of nodes k id) (2 ^ k) (2 ^ k) found) three
    (extent_as (cell_of nodes 3 id) (word_cells word) (is_word nodes sound n word fits same id own number) 8 8 found box)
