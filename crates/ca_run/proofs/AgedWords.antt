-- Words of the bits of states: bits that are put together row by row, and the cells of a square of 8 by 8.
use mir.Val.{bool_byte}
use Rattle.std.proofs.Common.{◌≡◌, ℕ, zero, suc, ◌+◌, ◌-◌, ◌*◌, ◌/◌, ◌%◌, ◌<◌, ◌≤◌, ◌^◌, max, if◌then◌else◌, Bool, true, false, inl, inr, List, slice_index, sym, ap, ap₂, subst, ◌∙◌, arith}
use Rattle.std.specs.Prelude.{ℤ, pos, ◌+ℤ◌, bit_or}
use Rattle.std.specs.Int.{bit_at}
use Rattle.std.specs.Int.Bits.{or_add_and}
use Rattle.std.proofs.lemmas.Bool.{cond_below}
use Rattle.std.proofs.lemmas.Int.{ints}
use Rattle.std.proofs.lemmas.Nat.{pow-add}
use Rattle.std.proofs.lemmas.Nat.Bits.{bit_at-zero, bit_at_lowest, bit_at_above, bit_at_or, bit_at_cat_low, bit_at_cat_high}
use Rattle.std.proofs.Math.Nat.{mul-le-mul_right, mod-eq_of_lt}
use Rattle.std.proofs.Math.Pow.{pow_mono}
use Rattle.ca_quad.specs.declared.node.Node.{Node}
use Rattle.ca_quad.specs.Prelude.{AreCorners}
use Rattle.ca_plane.proofs.Numbers.{below_or_not}
use Rattle.ca_run.specs.inner.Shown.{ShowsAt}
use Rattle.ca_bricks.specs.Prelude.{side, WordShows}

-- ---- bits that are put into a word above those so far

module _ (word unit k n : ℕ) (low : word < 2 ^ k) (few : unit < 2 ^ n) (room : k + n ≤ 64) where
  top : unit * 2 ^ k + 2 ^ k ≤ 2 ^ (k + n)
  top =
      let one : unit + 1 ≤ 2 ^ n = omega (arith, few) in
      let up : (unit + 1) * 2 ^ k ≤ 2 ^ n * 2 ^ k = mul-le-mul_right (2 ^ k) one in
      let sum = pow-add 2 k n in
      omega (arith, up, sum)

  in_word : unit * 2 ^ k % 2 ^ 64 ≡ unit * 2 ^ k + 0
  in_word =
      let most : 2 ^ (k + n) ≤ 2 ^ 64 = pow_mono room in
      let fits : unit * 2 ^ k < 2 ^ 64 = omega (arith, top, most, low) in
      mod-eq_of_lt fits ∙ omega arith

  -- they take n places more
  pub put_low : bit_or word (unit * 2 ^ k % 2 ^ 64) < 2 ^ (k + n)
  put_low =
      let both = or_add_and word (unit * 2 ^ k % 2 ^ 64) in
      omega (arith, both, in_word, top, low)

  -- those so far stay
  pub bit_before : (i : ℕ) → i < k → bit_at (bit_or word (unit * 2 ^ k % 2 ^ 64)) i ≡ bit_at word i
  bit_before i h =
      let none : bit_at (unit * 2 ^ k % 2 ^ 64) i ≡ 0 = ap (λ m. bit_at m i) in_word ∙ bit_at_cat_low unit k 0 i h ∙ bit_at-zero i in
      bit_at_or word (unit * 2 ^ k % 2 ^ 64) i ∙ ap (max (bit_at word i)) none ∙ omega arith

  -- and the others come behind them
  pub bit_behind : (i : ℕ) → bit_at (bit_or word (unit * 2 ^ k % 2 ^ 64)) (k + i) ≡ bit_at unit i
  bit_behind i =
      let none : bit_at word (k + i) ≡ 0 = bit_at_above word k (k + i) low (omega arith) in
      let rest : k + i - k ≡ i = omega arith in
      let own : bit_at (unit * 2 ^ k % 2 ^ 64) (k + i) ≡ bit_at unit i =
      ap (λ m. bit_at m (k + i)) in_word ∙ bit_at_cat_high unit k 0 (k + i) (omega (arith, low)) (omega arith) ∙ ap (bit_at unit) rest in
      bit_at_or word (unit * 2 ^ k % 2 ^ 64) (k + i) ∙ ap₂ max none own ∙ omega arith

-- one bit more of a row
pub bit_more : (word unit k : ℕ) → word < 2 ^ k → unit < 2 → k < 64 → (f : ℕ → ℕ) → ((x : ℕ) → x < k → bit_at word x ≡ f x) → unit ≡ f k
    → (x : ℕ) → x < k + 1 → bit_at (bit_or word (unit * 2 ^ k % 2 ^ 64)) x ≡ f x
bit_more word unit k low few room f so_far one x h = elim (below_or_not x k) [
  | inl near ↦ bit_before word unit k 1 low few (omega (arith, room)) x near ∙ so_far x near
  | inr far ↦
      let last : x ≡ k + 0 = omega (arith, far, h) in
      let here : k ≡ x = omega (arith, far, h) in
      let own : unit % 2 ≡ unit = omega (arith, few) in
      ap (bit_at (bit_or word (unit * 2 ^ k % 2 ^ 64))) last ∙ bit_behind word unit k 1 low few (omega (arith, room)) 0 ∙ bit_at_lowest unit ∙ own ∙ one ∙ ap f here
]

-- one row more of a word
module _ (word row y : ℕ) (low : word < 2 ^ (8 * y)) (few : row < 2 ^ 8) (room : y < 8) where
  pub row_low : bit_or word (row * 2 ^ (8 * y) % 2 ^ 64) < 2 ^ (8 * (y + 1))
  row_low =
      let next : 8 * y + 8 ≡ 8 * (y + 1) = omega arith in
      subst (λ m. bit_or word (row * 2 ^ (8 * y) % 2 ^ 64) < 2 ^ m) next (put_low word row (8 * y) 8 low few (omega (arith, room)))

  pub row_more : (f : ℕ → ℕ → ℕ) → ((x v : ℕ) → x < 8 → v < y → bit_at word (8 * v + x) ≡ f x v) → ((x : ℕ) → x < 8 → bit_at row x ≡ f x y)
      → (x v : ℕ) → x < 8 → v < y + 1 → bit_at (bit_or word (row * 2 ^ (8 * y) % 2 ^ 64)) (8 * v + x) ≡ f x v
  row_more f so_far one x v i h = elim (below_or_not v y) [
    | inl near ↦ bit_before word row (8 * y) 8 low few (omega (arith, room)) (8 * v + x) (omega (arith, near, i)) ∙ so_far x v i near
    | inr far ↦
        let last : 8 * v + x ≡ 8 * y + x = omega (arith, far, h) in
        let here : y ≡ v = omega (arith, far, h) in
        ap (bit_at (bit_or word (row * 2 ^ (8 * y) % 2 ^ 64))) last ∙ bit_behind word row (8 * y) 8 low few (omega (arith, room)) x ∙ one x i ∙ ap (f x) here
  ]

-- a word whose bits are those of a plane shows it
pub word_of_bits : (word : ℕ) (p : ℤ → ℤ → ℕ) (a b : ℤ) → ((x y : ℕ) → x < 8 → y < 8 → bit_at word (8 * y + x) ≡ p (a +ℤ pos x) (b +ℤ pos y)) → WordShows word p a b
word_of_bits word p a b bits = record { looks = λ x y i j. sym (cond_below x 8 (bit_at word (8 * y + x)) 0 i) ∙ bits x y i j }

-- ---- the cells of a square of 8 by 8

-- the corners of a square of 2 by 2 are its cells
corner_at : (nodes : List Node) (id : ℕ) (cells : List ℕ) (p : ℤ → ℤ → ℕ) (a b : ℤ) → AreCorners nodes id cells → ShowsAt nodes id 1 p a b
    → (u v : ℕ) → u < 2 → v < 2 → slice_index cells (2 * v + u) ≡ p (a +ℤ pos u) (b +ℤ pos v)
corner_at nodes id cells p a b are shows zero zero i j = sym (are.has_cells 0 0) ∙ shows.looks 0 0 i j
corner_at nodes id cells p a b are shows zero (suc zero) i j = sym (are.has_cells 0 1) ∙ shows.looks 0 1 i j
corner_at nodes id cells p a b are shows (suc zero) zero i j = sym (are.has_cells 1 0) ∙ shows.looks 1 0 i j
corner_at nodes id cells p a b are shows (suc zero) (suc zero) i j = sym (are.has_cells 1 1) ∙ shows.looks 1 1 i j
corner_at nodes id cells p a b are shows (suc (suc u)) v i j = absurd (omega (arith, i))
corner_at nodes id cells p a b are shows u (suc (suc v)) i j = absurd (omega (arith, j))

-- the one of them at a place of a larger square
pub state_at : (store nodes : List Node) → store ≡ nodes → (id : ℕ) (cells : List ℕ) (p : ℤ → ℤ → ℕ) (a b : ℤ) (x y k : ℕ) → AreCorners store id cells
    → ShowsAt nodes id 1 p (a +ℤ pos (2 * (x / 2))) (b +ℤ pos (2 * (y / 2))) → 2 * (y % 2) + x % 2 ≡ k → slice_index cells k ≡ p (a +ℤ pos x) (b +ℤ pos y)
state_at store nodes same id cells p a b x y k are shows e =
    let corners = subst (λ n. AreCorners n id cells) same are in
    let column : (a +ℤ pos (2 * (x / 2))) +ℤ pos (x % 2) ≡ a +ℤ pos x = omega (arith, ints) in
    let row : (b +ℤ pos (2 * (y / 2))) +ℤ pos (y % 2) ≡ b +ℤ pos y = omega (arith, ints) in
    ap (slice_index cells) (sym e) ∙ corner_at nodes id cells p _ _ corners shows (x % 2) (y % 2) (omega arith) (omega arith) ∙ ap₂ p column row

-- the quarter of a square on these sides shows the plane there
pub part_at : (nodes : List Node) (id level : ℕ) (p : ℤ → ℤ → ℕ) (a b : ℤ) (west north w n : Bool) → west ≡ w → north ≡ n
    → ShowsAt nodes id level p (if w then a else (a +ℤ side level)) (if n then b else (b +ℤ side level))
    → ShowsAt nodes id level p (if west then a else (a +ℤ side level)) (if north then b else (b +ℤ side level))
part_at nodes id level p a b west north w n e f h = rw (e, f) h

-- a truth as a number
pub as_byte : (b : Bool) (n : ℕ) → n ≡ bool_byte b → n ≡ if b then 1 else 0
as_byte true n e = e
as_byte false n e = e

pub byte_low : (b : Bool) (n : ℕ) → n ≡ bool_byte b → n < 2
byte_low true n e = omega (arith, e)
byte_low false n e = omega (arith, e)
