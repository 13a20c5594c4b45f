-- Squares of the cells of grids that age: their states by the bits of all planes.
use Rattle.std.proofs.Common.{◌≡◌, ℕ, zero, suc, ◌+◌, ◌-◌, ◌*◌, ◌/◌, ◌%◌, ◌<◌, ◌≤◌, ◌^◌, length, get_or, List, slice_index, sym, ap, ap₂, ◌∙◌, arith}
use Rattle.std.specs.Prelude.{ℤ, pos, ◌+ℤ◌, bit_or}
use Rattle.std.specs.Int.{bit_at}
use Rattle.std.proofs.Math.Nat.{two-pow-succ, one-le-pow, div-div-eq-div-mul, div-le_self, div-eq_of_lt}
use Rattle.std.proofs.lemmas.Bool.Decides.{nat_tests}
use Rattle.std.proofs.lemmas.Int.{ints}
use Rattle.std.proofs.lemmas.Nat.{or_shifted}
use Rattle.std.proofs.lemmas.Nat.Bits.{bit_at_lowest, bit_at-suc, bit_at-lt}
use Rattle.ca_plane.specs.Prelude.{liveness, word_cells}
use Rattle.ca_bricks.specs.declared.{aged.AgedGrid.AgedGrid, grid.BrickGrid.BrickGrid}
use Rattle.ca_bricks.specs.Prelude.{AgedGridShows, remaining, dying_digit, GridShows, StatesShow, told_state, WordShows, eight}
use Rattle.ca_bricks.proofs.Words.{word_from}

-- ---- parts of squares

-- the states of a part show the plane at its place
pub part_shows : (side s : ℕ) (states : List ℕ) (place dx dy at : ℕ) (p : ℤ → ℤ → ℕ) (a b c d : ℤ) → StatesShow side states place p a b → at ≡ place + (8 * dy + dx) → dx + s ≤ side → dy + s ≤ side
    → c ≡ a +ℤ pos dx → d ≡ b +ℤ pos dy → StatesShow s states at p c d
part_shows side s states place dx dy at p a b c d shows there wide high e f = record {
  looks = λ x y i j.
      let k : at + (8 * y + x) ≡ place + (8 * (dy + y) + (dx + x)) = omega (arith, there) in
      let u : a +ℤ pos (dx + x) ≡ c +ℤ pos x = omega (arith, ints, e) in
      let v : b +ℤ pos (dy + y) ≡ d +ℤ pos y = omega (arith, ints, f) in
      ap (slice_index states) k ∙ shows.looks (dx + x) (dy + y) (omega (arith, i, wide)) (omega (arith, j, high)) ∙ ap₂ p u v;
}

-- ---- numbers by their digits

-- a number without a digit is 0
pub without_digits : (n v : ℕ) → v < 2 ^ n → ((k : ℕ) → k < n → bit_at v k ≡ 0) → v ≡ 0
without_digits zero v low none = omega (arith, low)
without_digits (suc n) v low none =
    let half : v / 2 < 2 ^ n = omega (arith, low, two-pow-succ n) in
    let rest = without_digits n (v / 2) half (λ k h. sym (bit_at-suc v k) ∙ none (suc k) (omega (arith, h))) in
    let first = sym (bit_at_lowest v) ∙ none 0 (omega arith) in
    omega (arith, rest, first)

-- a number by its digits from k onwards: those beyond k, and digit k before them
pub digits_from : (v k : ℕ) → v < 256 → 2 * (v / 2 ^ suc k) % 256 + bit_at v k ≡ v / 2 ^ k
digits_from v k low =
    let power : 2 ^ k * 2 ≡ 2 ^ suc k = omega (arith, two-pow-succ k) in
    let half : v / 2 ^ k / 2 ≡ v / 2 ^ suc k = div-div-eq-div-mul v (2 ^ k) 2 ∙ ap (λ n. v / n) power in
    let few = div-le_self v (2 ^ k) in
    omega (arith, half, few, low)

-- none is left beyond the last digit
pub none_from : (v n : ℕ) → v < 2 ^ n → v / 2 ^ n ≡ 0
none_from v n low = div-eq_of_lt low

-- one digit more
pub digit_more : (n w i : ℕ) → bit_or (n * 2 ^ 1 % 2 ^ 8) (bit_at w i) ≡ 2 * n % 256 + bit_at w i
digit_more n w i =
    let a = n * 2 % 256 / 2 in
    let even : n * 2 % 256 ≡ a * 2 ^ 1 = omega arith in
    ap (λ v. bit_or v (bit_at w i)) even ∙ or_shifted a 1 (bit_at w i) (bit_at-lt w i) ∙ omega (arith, even)

-- ---- states

-- the number of a dying cell has n digits at most
pub number_fits : (states n state : ℕ) → state < states → states < 2 + 2 ^ n → remaining states state < 2 ^ n
number_fits states n state low enough =
    let some : 1 ≤ 2 ^ n = one-le-pow n 2 (omega arith) in
    grind (arith, nat_tests)

-- and fits a byte where a state does
pub number_low : (states greatest state : ℕ) → state < states → greatest ≡ states - 1 → greatest < 256 → remaining states state < 256
number_low states greatest state low is few = grind (arith, nat_tests)

-- a cell that isn't dying is live or dead
pub live_alone : (states state : ℕ) → state < states → remaining states state ≡ 0 → liveness state ≡ state
live_alone states zero low none = grind (arith, nat_tests)
live_alone states (suc zero) low none = grind (arith, nat_tests)
live_alone states (suc (suc s)) low none = grind (arith, nat_tests)

-- the state that `told_state` gives is the cell's
pub told_is : (states greatest state : ℕ) → state < states → greatest ≡ states - 1 → told_state greatest (liveness state) (remaining states state) ≡ state
told_is states greatest zero low is = grind (arith, nat_tests)
told_is states greatest (suc zero) low is = grind (arith, nat_tests)
told_is states greatest (suc (suc s)) low is = grind (arith, nat_tests)

-- ---- grids

-- a word of a digit lies where that of the live cells lies
pub digit_word : (grid : AgedGrid) (m : ℕ) (p : ℤ → ℤ → ℕ) (k word : ℕ) (d : BrickGrid) (i j : ℤ) → AgedGridShows grid m p → k < length grid.dying.items
    → ((m : ℕ) (q : ℤ → ℤ → ℕ) → GridShows (get_or grid.dying.items k d) m q → WordShows word q ((get_or grid.dying.items k d).x +ℤ eight i) ((get_or grid.dying.items k d).y +ℤ eight j))
    → WordShows word (λ x y. dying_digit grid.states k (p x y)) (grid.live.x +ℤ eight i) (grid.live.y +ℤ eight j)
digit_word grid m p k word d i j shows low told =
    let beside = shows.beside k d low in
    word_from word (λ x y. dying_digit grid.states k (p x y)) _ _ _ _ (ap (λ x. x +ℤ eight i) beside.place.x) (ap (λ y. y +ℤ eight j) beside.place.y) (told m _ (shows.dying k d low))

-- the cell of a word at a place
pub word_cell : (word x y : ℕ) → x < 8 → word_cells word x y ≡ bit_at word (8 * y + x)
word_cell word x y low = grind (arith, nat_tests)

-- a cell of which no plane of digits has a bit
pub no_number : (grid : AgedGrid) (m : ℕ) (p : ℤ → ℤ → ℕ) (x y : ℤ) → AgedGridShows grid m p → ((k : ℕ) → k < length grid.dying.items → dying_digit grid.states k (p x y) ≡ 0)
    → remaining grid.states (p x y) ≡ 0
no_number grid m p x y shows none =
    without_digits (length grid.dying.items) (remaining grid.states (p x y)) (number_fits grid.states (length grid.dying.items) (p x y) (shows.low x y) shows.enough) none

-- and then where it is dead besides
pub dead_there : (grid : AgedGrid) (m : ℕ) (p : ℤ → ℤ → ℕ) (x y : ℤ) → AgedGridShows grid m p → liveness (p x y) ≡ 0 → ((k : ℕ) → k < length grid.dying.items → dying_digit grid.states k (p x y) ≡ 0)
    → p x y ≡ 0
dead_there grid m p x y shows dead none =
    sym (live_alone grid.states (p x y) (shows.low x y) (no_number grid m p x y shows none)) ∙ dead

-- a place where a grid of a digit is dead
pub digit_dead : (grid : AgedGrid) (m : ℕ) (p : ℤ → ℤ → ℕ) (k x y : ℕ) (d : BrickGrid) → AgedGridShows grid m p → k < length grid.dying.items
    → ((m : ℕ) (q : ℤ → ℤ → ℕ) → GridShows (get_or grid.dying.items k d) m q → q ((get_or grid.dying.items k d).x +ℤ pos x) ((get_or grid.dying.items k d).y +ℤ pos y) ≡ 0)
    → dying_digit grid.states k (p (grid.live.x +ℤ pos x) (grid.live.y +ℤ pos y)) ≡ 0
digit_dead grid m p k x y d shows low told =
    let beside = shows.beside k d low in
    ap₂ (λ u v. dying_digit grid.states k (p (u +ℤ pos x) (v +ℤ pos y))) (sym beside.place.x) (sym beside.place.y) ∙ told m (λ x y. dying_digit grid.states k (p x y)) (shows.dying k d low)
