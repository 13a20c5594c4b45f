-- Words: their bits and bytes, and the planes that they show.
use Rattle.std.proofs.Common.{◌≡◌, ℕ, suc, ◌+◌, ◌-◌, ◌*◌, ◌/◌, ◌%◌, ◌<◌, ◌≤◌, ◌^◌, Bool, true, false, nat_lt, if◌then◌else◌, inl, inr, List, map, get_or, refl, sym, ap, ◌∙◌, arith}
use Rattle.std.specs.Prelude.{ℤ, pos, ◌+ℤ◌}
use Rattle.std.specs.Int.{bit_at, w64, to_le_bytes, from_le_bytes}
use Rattle.std.specs.List.{range_with_len}
use Rattle.std.proofs.Math.Nat.{two-pow-succ}
use Rattle.std.proofs.lemmas.Bool.{cond_below}
use Rattle.std.proofs.lemmas.Nat.{shr-shr, mod_below, le_bytes_8}
use Rattle.std.proofs.lemmas.Nat.Bits.{bit_at-zero}
use Rattle.std.proofs.lemmas.List.FromFn.{get_or-map-range_with_len, length-map-range_with_len}
use Rattle.std.proofs.lemmas.List.{get_or_past}
use Rattle.ca_plane.specs.Prelude.{word_cells}
use Rattle.ca_plane.proofs.Numbers.{below_or_not}
use Rattle.ca_plane.proofs.Shown.{looks_from}
use Rattle.ca_bricks.specs.Prelude.{WordShows, byte_of}
use Rattle.ca_bricks.proofs.BitRows.{bit_low}

-- ---- bits

-- the bits of a number that is shifted down are those further up
pub bit_shifted : (n k i : ℕ) → bit_at (n / 2 ^ k) i ≡ bit_at n (k + i)
bit_shifted n k i = ap (λ m. m % 2) (shr-shr n k i)

-- the bits of a word's byte
pub byte_bit_at : (word y x : ℕ) → x < 8 → bit_at (byte_of word y) x ≡ bit_at word (8 * y + x)
byte_bit_at word y x h = bit_low (word / 2 ^ (8 * y)) 8 x h ∙ bit_shifted word (8 * y) x

-- they are cells of one row
pub byte_bit : (word y x : ℕ) → x < 8 → bit_at (byte_of word y) x ≡ word_cells word x y
byte_bit word y x h = byte_bit_at word y x h ∙ cond_below x 8 (bit_at word (8 * y + x)) 0 h

pub byte_low : (word y : ℕ) → byte_of word y < 256
byte_low word y = mod_below (word / 2 ^ (8 * y)) 256 (omega arith)

-- the bytes of a word that is made of eight
word_bytes : (word : ℕ) → to_le_bytes w64 word ≡ map (byte_of word) (range_with_len 0 8)
word_bytes word =
    let e : word % 256 ≡ byte_of word 0 = omega arith in
    cc

-- eight bytes that are given by their places are bytes
bytes_fit : (f : ℕ → ℕ) → ((i : ℕ) → f i < 256) → (i : ℕ) → get_or (map f (range_with_len 0 8)) i 0 < 256
bytes_fit f fit i =
    elim (below_or_not i 8) [
      | inl l ↦
          let e = get_or-map-range_with_len f 0 8 i i 0 l (omega arith) in
          omega (arith, e, fit i)
      | inr l ↦
          let e = get_or_past (map f (range_with_len 0 8)) i 0 (omega (arith, length-map-range_with_len f 0 8)) in
          omega (arith, e)
    ]

-- and so they are those of the word that is made of them
pub made_byte : (f : ℕ → ℕ) → ((i : ℕ) → f i < 256) → (bytes : List ℕ) (word y : ℕ) → bytes ≡ map f (range_with_len 0 8) → word ≡ from_le_bytes w64 bytes → y < 8 → byte_of word y ≡ f y
made_byte f fit bytes word y e made j =
    let all = map f (range_with_len 0 8) in
    let g : to_le_bytes w64 word ≡ all = le_bytes_8 all word refl (bytes_fit f fit) (made ∙ ap (from_le_bytes w64) e) in
    sym (get_or-map-range_with_len (byte_of word) 0 8 y y 0 j (omega arith)) ∙ ap (λ l. get_or l y 0) (sym (word_bytes word) ∙ g)
    ∙ get_or-map-range_with_len f 0 8 y y 0 j (omega arith)

-- ---- planes that are shown

-- the same from a place by another name
pub word_from : (word : ℕ) (p : ℤ → ℤ → ℕ) (a b c d : ℤ) → a ≡ c → b ≡ d → WordShows word p a b → WordShows word p c d
word_from word p a b c d e f h = record { looks = looks_from 8 (word_cells word) p a b c d e f h.looks }

-- the same of a plane with the same cells
pub word_of_same : (word : ℕ) (p q : ℤ → ℤ → ℕ) (a b : ℤ) → ((x y : ℤ) → p x y ≡ q x y) → WordShows word p a b → WordShows word q a b
word_of_same word p q a b same h = record { looks = λ x y i j. h.looks x y i j ∙ same (a +ℤ pos x) (b +ℤ pos y) }

-- ---- words without a live cell

none_at : (x y : ℕ) → word_cells 0 x y ≡ 0
none_at x y = either (nat_lt x 8)
  where
    either : (low : Bool) → (if low then bit_at 0 (8 * y + x) else 0) ≡ 0
    either true = bit_at-zero (8 * y + x)
    either false = refl

-- an empty word shows a plane that is empty there
pub word_empty : (p : ℤ → ℤ → ℕ) (a b : ℤ) → ((x y : ℕ) → x < 8 → y < 8 → p (a +ℤ pos x) (b +ℤ pos y) ≡ 0) → WordShows 0 p a b
word_empty p a b none = record { looks = λ x y i j. none_at x y ∙ sym (none x y i j) }

-- ---- sides in words

-- the cells along the side of a square, and its words
pub side_words : (k : ℕ) → 2 ^ suc (suc (suc k)) ≡ 8 * 2 ^ k
side_words k =
    let up = two-pow-succ k in
    let up1 = two-pow-succ (suc k) in
    let up2 = two-pow-succ (suc (suc k)) in
    omega (arith, up, up1, up2)

-- a power of two from 2 ^ 6 onwards in words
pub power_words : (k : ℕ) → 6 ≤ k → 2 ^ k ≡ 8 * 2 ^ (k - 3)
power_words k least =
    let up : k ≡ suc (suc (suc (k - 3))) = omega (arith, least) in
    ap (λ n. 2 ^ n) up ∙ side_words (k - 3)
