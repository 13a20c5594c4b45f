-- The bits of words that are moved by one, and sums of bits.
use Rattle.std.proofs.Common.{◌≡◌, ℕ, zero, suc, ◌+◌, ◌-◌, ◌*◌, ◌/◌, ◌%◌, ◌^◌, ◌<◌, min, max, inl, inr, refl, sym, ap, ap₂, ◌∙◌, arith, if◌then◌else◌, nat_lt, Bool, true, false, ◌≤◌, ◌==◌, slice_index}
use Rattle.std.specs.Prelude.{bit_and, bit_or, bit_xor}
use Rattle.std.specs.Int.{bit_at}
use Rattle.std.proofs.lemmas.Bool.{cond_below, cond_above}
use Rattle.std.proofs.lemmas.Nat.Bits.{bit_at-zero, bit_at-suc, bit_at-lt, bit_at_and, bit_at_or, bit_at_xor, bit_at_cat_low, bit_at_cat_high, bit_at_above, bit_at_ones}
use Rattle.ca_plane.specs.declared.counting.Counting.{Counting}
use Rattle.ca_plane.proofs.Numbers.{below_or_not}
use Rattle.ca_bricks.specs.Prelude.{next_by_count, wide_bit, AreWords}
use Rattle.ca_bricks.specs.declared.word.WordMasks.{WordMasks}
use Rattle.ca_bricks.proofs.BitRows.{doubled_bit}

-- ---- sums of bits

pub pair_of_two : (a b x : ℕ) → bit_at a x + bit_at b x ≡ bit_at (bit_xor a b) x + 2 * bit_at (bit_and a b) x
pair_of_two a b x = omega (arith, bit_at_xor a b x, bit_at_and a b x, bit_at-lt a x, bit_at-lt b x)

pub pair_of_three : (a b c x : ℕ) → bit_at a x + bit_at b x + bit_at c x ≡ bit_at (bit_xor (bit_xor a b) c) x + 2 * bit_at (bit_or (bit_and a b) (bit_and (bit_xor a b) c)) x
pair_of_three a b c x =
    omega (arith, bit_at_xor a b x, bit_at_and a b x, bit_at_xor (bit_xor a b) c x, bit_at_and (bit_xor a b) c x, bit_at_or (bit_and a b) (bit_and (bit_xor a b) c) x, bit_at-lt a x, bit_at-lt b x, bit_at-lt c x)

-- the bits of one word that aren't in another
pub rest_bit : (a b x : ℕ) → bit_at (bit_xor a (bit_and a b)) x ≡ bit_at a x - bit_at b x
rest_bit a b x = omega (arith, bit_at_xor a (bit_and a b) x, bit_at_and a b x, bit_at-lt a x, bit_at-lt b x)

-- ---- words that are moved by one

pub west_bit : (west row east x : ℕ) → west < 2 ^ 64 → x < 64 → bit_at (bit_or (row * 2 % 2 ^ 64) (west / 2 ^ 63)) x ≡ wide_bit west row east x
west_bit west row east zero low h =
    let last : bit_at (west / 2 ^ 63) 0 ≡ bit_at west 63 = omega arith in
    let even : bit_at (row * 2 % 2 ^ 64) 0 ≡ 0 = omega arith in
    bit_at_or (row * 2 % 2 ^ 64) (west / 2 ^ 63) 0 ∙ ap₂ max even last ∙ omega arith
west_bit west row east (suc x) low h =
    let few : west / 2 ^ 63 < 2 ^ 1 = omega arith in
    let none = bit_at_above (west / 2 ^ 63) 1 (suc x) few (omega arith) in
    let own = doubled_bit 64 row x (omega arith) in
    let e : max (bit_at row x) 0 ≡ bit_at row x = omega arith in
    bit_at_or (row * 2 % 2 ^ 64) (west / 2 ^ 63) (suc x) ∙ ap₂ max own none ∙ e ∙ cond_below x 64 (bit_at row x) (bit_at east 0) (omega arith)

pub east_bit : (row east x : ℕ) → row < 2 ^ 64 → x < 64 → bit_at (bit_or (row / 2) (east * 2 ^ 63 % 2 ^ 64)) x ≡ (if nat_lt (suc x) 64 then bit_at row (suc x) else bit_at east 0)
east_bit row east x low h =
    let odd : east * 2 ^ 63 % 2 ^ 64 ≡ east % 2 * 2 ^ 63 + 0 = omega arith in
    let up = ap (λ n. bit_at n x) odd in
    bit_at_or (row / 2) (east * 2 ^ 63 % 2 ^ 64) x
    ∙ elim (below_or_not x 63) [
      | inl near ↦
          let none = up ∙ bit_at_cat_low (east % 2) 63 0 x near ∙ bit_at-zero x in
          let own = sym (bit_at-suc row x) in
          let e : max (bit_at row (suc x)) 0 ≡ bit_at row (suc x) = omega arith in
          ap₂ max own none ∙ e ∙ cond_below (suc x) 64 (bit_at row (suc x)) (bit_at east 0) (omega arith)
      | inr far ↦
          let half : row / 2 < 2 ^ 63 = omega arith in
          let none = bit_at_above (row / 2) 63 x half far in
          let last : x - 63 ≡ 0 = omega arith in
          let own = up ∙ bit_at_cat_high (east % 2) 63 0 x (omega arith) far ∙ ap (bit_at (east % 2)) last in
          let e : max 0 (bit_at (east % 2) 0) ≡ bit_at east 0 = omega arith in
          ap₂ max none own ∙ e ∙ cond_above (suc x) 64 (bit_at row (suc x)) (bit_at east 0) (bit_at east 0) (omega arith) refl
    ]

-- a bit of the word in the middle
pub middle_bit : (west row east x : ℕ) → x < 64 → wide_bit west row east (suc x) ≡ bit_at row x
middle_bit west row east x h = sym (cond_below x 64 (bit_at row x) (bit_at east 0) h)

-- ---- bits that are chosen

pick : (which there elsewhere bit : ℕ) → which < 2 → (which ≡ 0 → bit ≡ elsewhere) → (which ≡ 1 → bit ≡ there) → bit ≡ (if which == 0 then elsewhere else there)
pick zero there elsewhere bit low none one = none refl
pick (suc zero) there elsewhere bit low none one = one refl
pick (suc (suc which)) there elsewhere bit low none one = absurd (omega arith)

-- what differs of two bits, where a third is 1, added to the second of them
pub selected : (which there elsewhere inner middle outer : ℕ) → which < 2 → there < 2 → elsewhere < 2
    → inner ≡ (there + elsewhere) % 2 → middle ≡ min which inner → outer ≡ (elsewhere + middle) % 2 → outer ≡ (if which == 0 then elsewhere else there)
selected which there elsewhere inner middle outer low t e is_inner is_middle is_outer =
    pick which there elsewhere outer low (λ none. omega (arith, none, is_inner, is_middle, is_outer, t, e)) (λ one. omega (arith, one, is_inner, is_middle, is_outer, t, e))

pub chosen_bit : (which there elsewhere x : ℕ)
    → bit_at (bit_xor elsewhere (bit_and which (bit_xor there elsewhere))) x ≡ (if bit_at which x == 0 then bit_at elsewhere x else bit_at there x)
chosen_bit which there elsewhere x =
    selected (bit_at which x) (bit_at there x) (bit_at elsewhere x) _ _ _ (bit_at-lt which x) (bit_at-lt there x) (bit_at-lt elsewhere x)
    (bit_at_xor there elsewhere x) (bit_at_and which (bit_xor there elsewhere) x) (bit_at_xor elsewhere (bit_and which (bit_xor there elsewhere)) x)

-- where a bit tells which of two numbers n is, what is chosen by the bit is what `told` gives for n
pub told_by_bit : (told : ℕ → ℕ) (which low high n there elsewhere bit : ℕ) → which < 2 → bit ≡ (if which == 0 then elsewhere else there)
    → elsewhere ≡ told low → there ≡ told high → (which ≡ 0 → low ≡ n) → (which ≡ 1 → high ≡ n) → bit ≡ told n
told_by_bit told zero low high n there elsewhere bit h is e t none one = is ∙ e ∙ ap told (none refl)
told_by_bit told (suc zero) low high n there elsewhere bit h is e t none one = is ∙ t ∙ ap told (one refl)
told_by_bit told (suc (suc which)) low high n there elsewhere bit h is e t none one = absurd (omega arith)

-- two words of the masks tell what the masks do
pub words_tell : (words : WordMasks) (counting : Counting) (centre n x : ℕ) → AreWords words counting → n ≤ 8 → x < 64
    → (if centre == 0 then bit_at (slice_index words.born n) x else bit_at (slice_index words.stays n) x) ≡ next_by_count counting.birth counting.survival centre n
words_tell words counting centre n x are low h = ap₂ (λ b s. if centre == 0 then b else s) (are.born n x low h) (are.stays n x low h) ∙ either (centre == 0)
  where
    either : (dead : Bool) → (if dead then bit_at counting.birth n else bit_at counting.survival n) ≡ bit_at (if dead then counting.birth else counting.survival) n
    either true = refl
    either false = refl

-- all bits are 1
pub ones_bit : (x : ℕ) → x < 64 → bit_at 18446744073709551615 x ≡ 1
ones_bit x h = bit_at_ones 64 x h
