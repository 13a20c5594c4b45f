-- Lengths of strips where east and west are exchanged, from masks of their columns.
use Rattle.std.proofs.Common.{◌≡◌, ℕ, zero, suc, ◌+◌, ◌-◌, ◌*◌, ◌%◌, ◌^◌, ◌<◌, ◌≤◌, max, if◌then◌else◌, length, sym, ap, ap₂, subst, ◌∙◌, arith}
use Rattle.std.specs.Prelude.{bit_or, count_ones}
use Rattle.std.specs.Int.{bit_at}
use Rattle.std.proofs.lemmas.Bool.{eq-eqb, ne_eqb}
use Rattle.std.proofs.lemmas.Nat.Bits.{bit_at-lt, bit_at_or, bit_at_above}
use Rattle.std.proofs.Math.Nat.{pow-suc}
use Rattle.ca_apgcode.specs.Prelude.{GridCells, cell}
use Rattle.ca_apgcode.specs.inner.Lengths.{IsStripLength}
use Rattle.ca_apgcode.specs.inner.Sides.{IsStripMask, west_bit, east_bit, bits_without, text_length}
use Rattle.ca_apgcode.specs.inner.Turned.{IsMirrored}
use Rattle.ca_apgcode.proofs.Heights.{pow_most}
use Rattle.ca_apgcode.proofs.MaskBits.{bit_first, bit_later, rest_bit, west_bits, without_fits, ones_reversed}
use Rattle.ca_apgcode.proofs.MaskLengths.{IsStripLength-mask}
use Rattle.ca_apgcode.proofs.SeenBoxes.{mirrored_mask}

-- the lowest bits of a number, the other way round
abbrev reversed : ℕ → ℕ → ℕ
reversed mask zero = 0
reversed mask (suc width) = 2 * reversed mask width + bit_at mask width

reversed_low : (mask width : ℕ) → reversed mask width < 2 ^ width
reversed_low mask zero = omega arith
reversed_low mask (suc width) =
    let low = reversed_low mask width in
    let bit = bit_at-lt mask width in
    subst (λ n. 2 * reversed mask width + bit_at mask width < n) (sym (pow-suc 2 width)) (omega (arith, low, bit))

reversed_bit : (mask width x : ℕ) → x < width → bit_at (reversed mask width) x ≡ bit_at mask (width - 1 - x)
reversed_bit mask zero x within = absurd (omega (arith, within))
reversed_bit mask (suc width) zero within = bit_first (reversed mask width) (bit_at mask width) (bit_at-lt mask width) ∙ ap (bit_at mask) (let e : width ≡ suc width - 1 - 0 = omega arith in e)
reversed_bit mask (suc width) (suc x) within =
    bit_later (reversed mask width) (bit_at mask width) x (bit_at-lt mask width)
    ∙ (reversed_bit mask width x (omega (arith, within)) ∙ ap (bit_at mask) (let e : width - 1 - x ≡ suc width - 1 - suc x = omega arith in e))

-- the bits of two numbers are each other's the other way round
abbrev AreReversed : (width : ℕ) → ℕ → ℕ → Type 0
AreReversed width a b = (x : ℕ) → x < width → bit_at a x ≡ bit_at b (width - 1 - x)

-- so are the bits before those of one and after those of the other
AreReversed-west : (width a b west east : ℕ) → ((x : ℕ) → x < 64 → bit_at west x ≡ west_bit a x) → ((x : ℕ) → x < width → bit_at east x ≡ east_bit width b x) → width ≤ 40 → AreReversed width a b → AreReversed width west east
AreReversed-west width a b west east is_west is_east narrow same zero within =
    let last : width - 1 - 0 + 1 ≡ width = omega (arith, within) in
    is_west 0 (omega arith) ∙ sym (is_east (width - 1 - 0) (omega (arith, within)) ∙ ap (λ t. if t then 1 else bit_at b (width - 1 - 0 + 1)) (eq-eqb (width - 1 - 0 + 1) width last))
AreReversed-west width a b west east is_west is_east narrow same (suc x) within =
    let place = width - 1 - suc x in
    let next : width - 1 - x ≡ place + 1 = omega (arith, within) in
    is_west (suc x) (omega (arith, within, narrow))
    ∙ (same x (omega (arith, within)) ∙ (ap (bit_at b) next
    ∙ sym (is_east place (omega (arith, within)) ∙ ap (λ t. if t then 1 else bit_at b (place + 1)) (ne_eqb (place + 1) width (λ e. absurd (omega (arith, e, within)))))))

AreReversed-or : (width a b c d : ℕ) → AreReversed width a b → AreReversed width c d → AreReversed width (bit_or a c) (bit_or b d)
AreReversed-or width a b c d one other x within = bit_at_or a c x ∙ (ap₂ max (one x within) (other x within) ∙ sym (bit_at_or b d (width - 1 - x)))

AreReversed-without : (width a b c d : ℕ) → AreReversed width a b → AreReversed width c d → AreReversed width (bits_without a c) (bits_without b d)
AreReversed-without width a b c d one other x within = rest_bit a c x ∙ (ap₂ ◌-◌ (one x within) (other x within) ∙ sym (rest_bit b d (width - 1 - x)))

-- as many of them are ones
same_ones : (width a b : ℕ) → width ≤ 40 → a < 2 ^ width → b < 2 ^ width → (c d : ℕ) → AreReversed width (bits_without a c) (bits_without b d) → count_ones (bits_without a c) ≡ count_ones (bits_without b d)
same_ones width a b narrow low_a low_b c d same =
    ones_reversed (bits_without a c) (bits_without b d) width (omega (arith, narrow)) (without_fits a c (fits a low_a)) (without_fits b d (fits b low_b)) same (past a c low_a) (past b d low_b)
  where
    fits : (n : ℕ) → n < 2 ^ width → n < 2 ^ 64
    fits n low = let most = pow_most width 64 (omega (arith, narrow)) in omega (arith, low, most)

    past : (n m : ℕ) → n < 2 ^ width → (x : ℕ) → width ≤ x → bit_at (bits_without n m) x ≡ 0
    past n m low x far = let rest = rest_bit n m x in let none = bit_at_above n width x low far in omega (arith, rest, none)

-- the text of a strip with east and west exchanged is as long as the mask says, and the bits after each of its columns
pub IsStripLength-mirrored : (grid mirrored : GridCells) (y mask width one two three four : ℕ) → IsMirrored grid mirrored → length grid.columns ≡ width → mask < 2 ^ width → width ≤ 40
    → ((x : ℕ) → x < width → bit_at one x ≡ east_bit width mask x) → ((x : ℕ) → x < width → bit_at two x ≡ east_bit width one x) → ((x : ℕ) → x < width → bit_at three x ≡ east_bit width two x) → ((x : ℕ) → x < width → bit_at four x ≡ east_bit width three x)
    → IsStripMask (cell grid) y mask → IsStripLength (cell mirrored) y (text_length mask one two three four)
IsStripLength-mirrored grid mirrored y mask width one two three four is size low narrow is_one is_two is_three is_four masks =
    let turned = reversed mask width in
    let a = bit_or (turned * 2 % 2 ^ 64) 1 in
    let b = bit_or (a * 2 % 2 ^ 64) 1 in
    let c = bit_or (b * 2 % 2 ^ 64) 1 in
    let d = bit_or (c * 2 % 2 ^ 64) 1 in
    let turned_low = reversed_low mask width in
    let most = pow_most width 40 narrow in
    let all = reversed_bit mask width in
    let by_one = AreReversed-west width turned mask a one (west_bits turned) is_one narrow all in
    let by_two = AreReversed-west width a one b two (west_bits a) is_two narrow by_one in
    let by_three = AreReversed-west width b two c three (west_bits b) is_three narrow by_two in
    let by_four = AreReversed-west width c three d four (west_bits c) is_four narrow by_three in
    let near = bit_or (bit_or (bit_or a b) c) d in
    let far = bit_or (bit_or (bit_or one two) three) four in
    let by_near =
    AreReversed-or width (bit_or (bit_or a b) c) (bit_or (bit_or one two) three) d four
    (AreReversed-or width (bit_or a b) (bit_or one two) c three (AreReversed-or width a one b two by_one by_two) by_three) by_four in
    let ones : count_ones turned ≡ count_ones mask =
    ones_reversed turned mask width (omega (arith, narrow)) (omega (arith, turned_low, most)) (omega (arith, low, most)) all
    (λ x past. bit_at_above turned width x turned_low past) (λ x past. bit_at_above mask width x low past) in
    let gaps = same_ones width turned mask narrow turned_low low a one (AreReversed-without width turned mask a one all by_one) in
    let longs = same_ones width turned mask narrow turned_low low near far (AreReversed-without width turned mask near far all by_near) in
    let same : text_length turned a b c d ≡ text_length mask one two three four = ap₂ ◌+◌ (ap₂ ◌+◌ ones gaps) longs in
    let is_mask =
    mirrored_mask grid mirrored y mask turned is (subst (λ w. turned < 2 ^ w) (sym size) turned_low)
    (subst (λ (w : ℕ). (x : ℕ) → x < w → bit_at turned x ≡ bit_at mask (w - 1 - x)) (sym size) all) masks in
    subst (IsStripLength (cell mirrored) y) same
    (IsStripLength-mask mirrored y turned a b c d is_mask (omega (arith, turned_low, most)) (west_bits turned) (west_bits a) (west_bits b) (west_bits c))
