-- Rows of bits: what an operation on all of them makes of the bit at each place.
use Rattle.std.proofs.Common.{◌≡◌, ℕ, zero, suc, ◌+◌, ◌*◌, ◌/◌, ◌%◌, ◌^◌, ◌<◌, min, max, List, [], ◌∷◌, ◌++◌, length, get_or, Bool, true, false, refl, sym, ap, ◌∙◌, arith, if◌then◌else◌}
use Rattle.std.specs.Prelude.{bit_and, bit_or, bit_xor, replicate}
use Rattle.std.specs.List.{range_with_len}
use Rattle.std.specs.Int.{bit_at}
use Rattle.std.proofs.Math.ListN.{get_or-append}
use Rattle.std.proofs.lemmas.Nat.{div-add-mod'}
use Rattle.std.proofs.lemmas.List.{get_or-replicate}
use Rattle.std.proofs.lemmas.Nat.Bits.{bit_at-zero, bit_at-suc, bit_at_and, bit_at_or, bit_at_xor, bit_at_cat_low, bit_at_ones}
use Rattle.std.specs.Simd.Lanes.{zip2, pick_l}
use Rattle.ca_plane.specs.Prelude.{row_cells}

-- ---- two lists of rows, row by row

zipped : (f g : ℕ → ℕ → ℕ) → ((a b i : ℕ) → bit_at (f a b) i ≡ g (bit_at a i) (bit_at b i)) → g 0 0 ≡ 0 → (ps qs : List ℕ) → length ps ≡ length qs
    → (x y : ℕ) → row_cells (zip2 f ps qs) x y ≡ g (row_cells ps x y) (row_cells qs x y)
zipped f g each none [] [] e x y = let z = bit_at-zero x in z ∙ sym none ∙ sym (ap (λ b. g b (bit_at 0 x)) z ∙ ap (g 0) z)
zipped f g each none [] (b ∷ qs) e x y = absurd (omega arith)
zipped f g each none (a ∷ ps) [] e x y = absurd (omega arith)
zipped f g each none (a ∷ ps) (b ∷ qs) e x zero = each a b x
zipped f g each none (a ∷ ps) (b ∷ qs) e x (suc y) = let l : length ps ≡ length qs = omega arith in zipped f g each none ps qs l x y

pub bits_and : (ps qs : List ℕ) → length ps ≡ 16 → length qs ≡ 16 → (x y : ℕ) → row_cells (zip2 bit_and ps qs) x y ≡ min (row_cells ps x y) (row_cells qs x y)
bits_and ps qs l m = zipped bit_and min bit_at_and refl ps qs (l ∙ sym m)

pub bits_or : (ps qs : List ℕ) → length ps ≡ 16 → length qs ≡ 16 → (x y : ℕ) → row_cells (zip2 bit_or ps qs) x y ≡ max (row_cells ps x y) (row_cells qs x y)
bits_or ps qs l m = zipped bit_or max bit_at_or refl ps qs (l ∙ sym m)

pub bits_xor : (ps qs : List ℕ) → length ps ≡ 16 → length qs ≡ 16 → (x y : ℕ) → row_cells (zip2 bit_xor ps qs) x y ≡ (row_cells ps x y + row_cells qs x y) % 2
bits_xor ps qs l m = zipped bit_xor (λ a b. (a + b) % 2) bit_at_xor refl ps qs (l ∙ sym m)

-- ---- rows moved by one to the west or the east

-- the low bits of a number
pub bit_low : (n k i : ℕ) → i < k → bit_at (n % 2 ^ k) i ≡ bit_at n i
bit_low n k i h = sym (ap (λ m. bit_at m i) (sym (div-add-mod' n (2 ^ k))) ∙ bit_at_cat_low (n / 2 ^ k) k (n % 2 ^ k) i h)

-- the bits of a number that is doubled, in a row of n bits
pub doubled_bit : (n a x : ℕ) → suc x < n → bit_at (a * 2 % 2 ^ n) (suc x) ≡ bit_at a x
doubled_bit n a x h =
    let half : a * 2 / 2 ≡ a = omega arith in
    bit_low (a * 2) n (suc x) h ∙ bit_at-suc (a * 2) x ∙ ap (λ m. bit_at m x) half

pub bits_west : (f : ℕ → ℕ → ℕ) → ((a : ℕ) → f a 1 ≡ a * 2 % 65536) → (n : ℕ) (rows : List ℕ) → length rows ≡ n
    → (x y : ℕ) → x < 15 → row_cells (zip2 f rows (replicate n 1)) (suc x) y ≡ row_cells rows x y
bits_west f is zero [] e x y h = bit_at-zero (suc x) ∙ sym (bit_at-zero x)
bits_west f is (suc n) [] e x y h = absurd (omega arith)
bits_west f is zero (r ∷ rs) e x y h = absurd (omega arith)
bits_west f is (suc n) (r ∷ rs) e x zero h = ap (λ n. bit_at n (suc x)) (is r) ∙ doubled_bit 16 r x (omega arith)
bits_west f is (suc n) (r ∷ rs) e x (suc y) h = let l : length rs ≡ n = omega arith in bits_west f is n rs l x y h

pub bits_east : (f : ℕ → ℕ → ℕ) → ((a : ℕ) → f a 1 ≡ a / 2) → (n : ℕ) (rows : List ℕ) → length rows ≡ n
    → (x y : ℕ) → row_cells (zip2 f rows (replicate n 1)) x y ≡ row_cells rows (suc x) y
bits_east f is zero [] e x y = bit_at-zero x ∙ sym (bit_at-zero (suc x))
bits_east f is (suc n) [] e x y = absurd (omega arith)
bits_east f is zero (r ∷ rs) e x y = absurd (omega arith)
bits_east f is (suc n) (r ∷ rs) e x zero = ap (λ n. bit_at n x) (is r) ∙ sym (bit_at-suc r x)
bits_east f is (suc n) (r ∷ rs) e x (suc y) = let l : length rs ≡ n = omega arith in bits_east f is n rs l x y

-- ---- rows moved by one to the north or the south

-- positions from a onwards, and then others
picked : (rows : List ℕ) (a n y : ℕ) (others : List ℕ) → y < n → get_or (pick_l 0 rows (range_with_len a n ++ others)) y 0 ≡ get_or rows (a + y) 0
picked rows a zero y others h = absurd (omega arith)
picked rows a (suc n) zero others h = let e : a ≡ a + 0 = omega arith in ap (λ i. get_or rows i 0) e
picked rows a (suc n) (suc y) others h = let e : a + 1 + y ≡ a + suc y = omega arith in picked rows (a + 1) n y others (omega arith) ∙ ap (λ i. get_or rows i 0) e

pub bits_north : (rows : List ℕ) → length rows ≡ 16 → (x y : ℕ) → y < 15 → row_cells (pick_l 0 (rows ++ rows) (15 ∷ range_with_len 0 15)) x (suc y) ≡ row_cells rows x y
bits_north rows l x y h =
    let e : 0 + y ≡ y = omega arith in
    ap (λ r. bit_at r x) (picked (rows ++ rows) 0 15 y [] h ∙ ap (λ i. get_or (rows ++ rows) i 0) e ∙ get_or-append rows rows 0 y (omega arith))

pub bits_south : (rows : List ℕ) → length rows ≡ 16 → (x y : ℕ) → y < 15 → row_cells (pick_l 0 (rows ++ rows) (range_with_len 1 15 ++ 0 ∷ [])) x y ≡ row_cells rows x (suc y)
bits_south rows l x y h =
    let e : 1 + y ≡ suc y = omega arith in
    ap (λ r. bit_at r x) (picked (rows ++ rows) 1 15 y (0 ∷ []) h ∙ ap (λ i. get_or (rows ++ rows) i 0) e ∙ get_or-append rows rows 0 (suc y) (omega arith))

-- ---- the same row everywhere

pub bits_all : (set : Bool) (row : ℕ) → row ≡ (if set then 65535 else 0) → (x y : ℕ) → x < 16 → y < 16 → row_cells (replicate 16 row) x y ≡ (if set then 1 else 0)
bits_all true row e x y h k = ap (λ r. bit_at r x) (get_or-replicate 16 y row 0 k ∙ e) ∙ bit_at_ones 16 x h
bits_all false row e x y h k = ap (λ r. bit_at r x) (get_or-replicate 16 y row 0 k ∙ e) ∙ bit_at-zero x
