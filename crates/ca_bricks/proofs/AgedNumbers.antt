-- Numbers that count down, digit by digit.
use Rattle.std.proofs.Common.{◌≡◌, ℕ, zero, suc, ◌+◌, ◌-◌, ◌*◌, ◌/◌, ◌%◌, ◌<◌, ◌≤◌, ◌^◌, min, max, inl, inr, ◌⊎◌, List, [], ◌∷◌, length, get_or, take, slice_set, refl, sym, ap, ap₂, ◌∙◌, arith}
use Rattle.std.specs.Int.{bit_at}
use Rattle.std.specs.List.{All}
use Rattle.std.proofs.Math.Nat.{two-pow-succ, div-eq_of_lt}
use Rattle.std.proofs.lemmas.Bool.{cases_eq}
use Rattle.std.proofs.lemmas.Grind.{get_or-set_at}
use Rattle.std.proofs.lemmas.List.{get_or-set_other, get_or_default, length-set}
use Rattle.std.proofs.lemmas.Nat.Bits.{bit_at_lowest, bit_at-suc, bit_at-lt}
use Rattle.ca_plane.specs.Prelude.{row_cells}
use Rattle.ca_plane.proofs.Numbers.{below_or_not}
use Rattle.ca_bricks.specs.declared.grid.BrickGrid.{BrickGrid}
use Rattle.ca_bricks.specs.Prelude.{number_at, IsInPlace}

-- ---- one less

-- 1 where one is borrowed from digit k onwards, when a number that isn't 0 becomes one less
abbrev pub borrowed_at : ℕ → ℕ → ℕ
borrowed_at zero n = min 1 n
borrowed_at (suc k) n = borrowed_at k n - bit_at n k

even_borrows : (n k : ℕ) → n % 2 ≡ 0 → borrowed_at (suc k) n ≡ borrowed_at k (n / 2)
even_borrows n zero e = omega (arith, bit_at_lowest n, e)
even_borrows n (suc k) e = ap₂ (λ a b. a - b) (even_borrows n k e) (bit_at-suc n k)

odd_borrows : (n k : ℕ) → n % 2 ≡ 1 → borrowed_at (suc k) n ≡ 0
odd_borrows n zero e = omega (arith, bit_at_lowest n, e)
odd_borrows n (suc k) e = let none = odd_borrows n k e in omega (arith, none)

even_or_odd : (n : ℕ) → (n % 2 ≡ 0) ⊎ (n % 2 ≡ 1)
even_or_odd zero = inl refl
even_or_odd (suc n) = elim (even_or_odd n) [ inl e ↦ inr (omega (arith, e)) | inr o ↦ inl (omega (arith, o)) ]

-- a digit of the number one less
pub one_less_digit : (k n : ℕ) → bit_at (n - 1) k ≡ (bit_at n k + borrowed_at k n) % 2
one_less_digit zero n = omega (arith, bit_at_lowest n, bit_at_lowest (n - 1))
one_less_digit (suc k) n = elim (even_or_odd n) [
  | inl e ↦
      let half : (n - 1) / 2 ≡ n / 2 - 1 = omega (arith, e) in
      bit_at-suc (n - 1) k ∙ ap (λ m. bit_at m k) half ∙ one_less_digit k (n / 2)
      ∙ sym (ap₂ (λ a b. (a + b) % 2) (bit_at-suc n k) (even_borrows n k e))
  | inr o ↦
      let half : (n - 1) / 2 ≡ n / 2 = omega (arith, o) in
      let none = odd_borrows n k o in
      bit_at-suc (n - 1) k ∙ ap (λ m. bit_at m k) half ∙ omega (arith, bit_at-suc n k, none, bit_at-lt (n / 2) k)
]

-- ---- the digits of a number

doubled : (b m : ℕ) → b < 2 → ((b + 2 * m) % 2 ≡ b) × ((b + 2 * m) / 2 ≡ m)
doubled b m h = (omega (arith, h), omega (arith, h))

pub digit_at : (grids : List BrickGrid) (k : ℕ) (d : BrickGrid) (t x y : ℕ) → k < length grids
    → row_cells (get_or (get_or grids k d).bricks.items t []) x y ≡ bit_at (number_at grids t x y) k
digit_at [] k d t x y h = absurd (omega (arith, h))
digit_at (w ∷ ws) zero d t x y h =
    let b = row_cells (get_or w.bricks.items t []) x y in
    sym (bit_at_lowest (b + 2 * number_at ws t x y) ∙ (doubled b (number_at ws t x y) (bit_at-lt _ x)).0)
digit_at (w ∷ ws) (suc k) d t x y h =
    let b = row_cells (get_or w.bricks.items t []) x y in
    digit_at ws k d t x y (omega (arith, h))
    ∙ sym (bit_at-suc (b + 2 * number_at ws t x y) k ∙ ap (λ m. bit_at m k) ((doubled b (number_at ws t x y) (bit_at-lt _ x)).1))

-- a number is the one whose digits they are
pub number_of : (grids : List BrickGrid) (t x y v : ℕ) → v < 2 ^ length grids
    → ((k : ℕ) (d : BrickGrid) → k < length grids → row_cells (get_or (get_or grids k d).bricks.items t []) x y ≡ bit_at v k)
    → number_at grids t x y ≡ v
number_of [] t x y v low digits = omega (arith, low)
number_of (w ∷ ws) t x y v low digits =
    let first = digits 0 w (omega arith) ∙ bit_at_lowest v in
    let half : v / 2 < 2 ^ length ws = omega (arith, low, two-pow-succ (length ws)) in
    let more = number_of ws t x y (v / 2) half (λ k d h. digits (suc k) d (omega (arith, h)) ∙ bit_at-suc v k) in
    omega (arith, first, more)

-- ---- numbers that aren't 0

pub some_more : (grids : List BrickGrid) (k : ℕ) (d : BrickGrid) (t x y : ℕ) → k < length grids
    → min 1 (number_at (take (suc k) grids) t x y) ≡ max (min 1 (number_at (take k grids) t x y)) (row_cells (get_or (get_or grids k d).bricks.items t []) x y)
some_more [] k d t x y h = absurd (omega (arith, h))
some_more (w ∷ ws) zero d t x y h = let low = bit_at-lt (get_or (get_or w.bricks.items t []) y 0) x in omega (arith, low)
some_more (w ∷ ws) (suc k) d t x y h =
    let more = some_more ws k d t x y (omega (arith, h)) in
    omega (arith, more)

-- ---- a brick that is written into one of the planes

pub put_here : (grids : List BrickGrid) (k s j : ℕ) (w d e : BrickGrid) (rows : List ℕ) → k < length grids → s < length (get_or grids k e).bricks.items
    → w.bricks.items ≡ slice_set (get_or grids k e).bricks.items s rows → j ≡ k → get_or (get_or (slice_set grids k w) j d).bricks.items s [] ≡ rows
put_here grids k s j w d e rows long low is same =
    ap (λ (v : BrickGrid). get_or v.bricks.items s []) (get_or-set_at grids k j w d same long)
    ∙ ap (λ l. get_or l s []) is ∙ get_or-set_at (get_or grids k e).bricks.items s s rows [] refl low

pub put_elsewhere : (grids : List BrickGrid) (k s j t : ℕ) (w d e : BrickGrid) (rows : List ℕ) → k < length grids
    → w.bricks.items ≡ slice_set (get_or grids k e).bricks.items s rows → (t ≡ s → ⊥)
    → get_or (get_or (slice_set grids k w) j d).bricks.items t [] ≡ get_or (get_or grids j d).bricks.items t []
put_elsewhere grids k s j t w d e rows long is other = elim (cases_eq j k) [
  | inl same ↦
      ap (λ (v : BrickGrid). get_or v.bricks.items t []) (get_or-set_at grids k j w d same long)
      ∙ ap (λ l. get_or l t []) is ∙ get_or-set_other (get_or grids k e).bricks.items s t rows [] other
      ∙ ap (λ (v : BrickGrid). get_or v.bricks.items t []) (get_or_default grids k e d long ∙ ap (λ n. get_or grids n d) (sym same))
  | inr apart ↦ ap (λ (v : BrickGrid). get_or v.bricks.items t []) (get_or-set_other grids k j w d apart)
]

pub put_size : (grids : List BrickGrid) (k count : ℕ) (w : BrickGrid) → k < length grids → length w.bricks.items ≡ count
    → All (λ digit. length digit.bricks.items ≡ count) grids → All (λ digit. length digit.bricks.items ≡ count) (slice_set grids k w)
put_size grids k count w long size all j d h = elim (cases_eq j k) [
  | inl same ↦ ap (λ (v : BrickGrid). length v.bricks.items) (get_or-set_at grids k j w d same long) ∙ size
  | inr apart ↦ ap (λ (v : BrickGrid). length v.bricks.items) (get_or-set_other grids k j w d apart) ∙ all j d (omega (arith, h, length-set grids k w))
]

pub in_place_again : (a b c : BrickGrid) → IsInPlace a b → IsInPlace b c → IsInPlace a c
in_place_again a b c h k = record { x = k.x ∙ h.x; y = k.y ∙ h.y; across = k.across ∙ h.across; down = k.down ∙ h.down }

-- ---- how many digits a number has

-- where dividing by a power of two leaves something, that isn't more than the number
pub power_within : (n d : ℕ) → (n / 2 ^ d ≡ 0 → ⊥) → 2 ^ d ≤ n
power_within n d some = elim (below_or_not n (2 ^ d)) [ inl low ↦ absurd (some (div-eq_of_lt low)) | inr many ↦ many ]

-- where fewer digits than these are too few, no number of digits that is enough is less
pub least_digits : (states digits : ℕ) → 2 ≤ states → ((d : ℕ) → d < digits → 2 ^ d ≤ states - 2) → (d : ℕ) → states < 2 + 2 ^ d → digits ≤ d
least_digits states digits two few d fits = elim (below_or_not d digits) [ inl low ↦ absurd (omega (arith, few d low, two, fits)) | inr many ↦ many ]
