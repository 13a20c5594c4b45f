-- The bits of a block, corner by corner and row by row.
use Rattle.std.proofs.Common.{◌≡◌, ℕ, ◌+◌, ◌-◌, ◌*◌, ◌/◌, ◌%◌, ◌<◌, ◌≤◌, ◌^◌, inl, inr, true, min, ◌==◌, bit_and, refl, sym, ap, ◌∙◌, arith}
use Rattle.std.specs.Prelude.{bit_xor}
use Rattle.std.specs.Int.{bit_at}
use Rattle.std.proofs.lemmas.Bool.{cases_eq, cases_lt, eqb-true, eq-eqb, ne_eqb, agree_below_at}
use Rattle.std.proofs.lemmas.Nat.{pow_pos, and_le_r, shr-shr}
use Rattle.std.proofs.lemmas.Nat.Bits.{bit_at-zero, bit_at-lt, bit_at_and, bit_at_xor, bit_at_cat_low, bit_at_cat_high}
use Rattle.std.proofs.Math.Nat.{mul-le-mul}
use Rattle.ca_quad.specs.inner.Bits.{place, exchanged_bit}

no_more : (n k : ℕ) → n * 2 ^ k ≡ n * 2 ^ k + 0
no_more n k = omega arith

-- the bits of a number that is moved up, or down
pub below_shift : (n k i : ℕ) → i < k → bit_at (n * 2 ^ k) i ≡ 0
below_shift n k i h = rw (no_more n k) (bit_at_cat_low n k 0 i h ∙ bit_at-zero i)

pub above_shift : (n k i : ℕ) → k ≤ i → bit_at (n * 2 ^ k) i ≡ bit_at n (i - k)
above_shift n k i h = rw (no_more n k) (bit_at_cat_high n k 0 i (pow_pos k) h)

pub down_shift : (n k i : ℕ) → bit_at (n / 2 ^ k) i ≡ bit_at n (i + k)
down_shift n k i = let e : k + i ≡ i + k = omega arith in ap (λ m. m % 2) (shr-shr n k i) ∙ ap (bit_at n) e

-- the low bits that differ from those above them
abbrev changed : ℕ → ℕ → ℕ → ℕ
changed n low way = bit_and (bit_xor n (n / 2 ^ way)) low

changed_at : (n low way i : ℕ) → bit_at (changed n low way) i ≡ min ((bit_at n i + bit_at n (i + way)) % 2) (bit_at low i)
changed_at n low way i =
    bit_at_and (bit_xor n (n / 2 ^ way)) low i
    ∙ ap (λ m. min m (bit_at low i)) (bit_at_xor n (n / 2 ^ way) i ∙ ap (λ m. (bit_at n i + m) % 2) (down_shift n way i))

-- what three numbers exclusively have at a place
xor_three : (n a b i : ℕ) → bit_at (bit_xor (bit_xor n a) b) i ≡ (bit_at n i + bit_at a i + bit_at b i) % 2
xor_three n a b i = bit_at_xor (bit_xor n a) b i ∙ ap (λ m. (m + bit_at b i) % 2) (bit_at_xor n a i) ∙ omega arith

module _ (n low way i : ℕ) (apart : bit_and low (low * 2 ^ way) ≡ 0) where
  not_both : min (bit_at low i) (bit_at (low * 2 ^ way) i) ≡ 0
  not_both = sym (bit_at_and low (low * 2 ^ way) i) ∙ ap (λ m. bit_at m i) apart ∙ bit_at-zero i

  -- what is moved up, at a place
  up_at : bit_at (changed n low way * 2 ^ way) i ≡ min ((bit_at n (i - way) + bit_at n i) % 2) (bit_at (low * 2 ^ way) i)
  up_at =
      elim (cases_lt i way) [
        | inl h ↦ omega (arith, below_shift (changed n low way) way i h, below_shift low way i h)
        | inr h ↦
            let back : i - way + way ≡ i = omega arith in
            above_shift (changed n low way) way i h ∙ changed_at n low way (i - way)
            ∙ rw (back, above_shift low way i h) refl
      ]

  exchange_at : bit_at (bit_xor (bit_xor n (changed n low way)) (changed n low way * 2 ^ way)) i ≡ bit_at n (exchanged_bit low way i)
  exchange_at =
      let all = xor_three n (changed n low way) (changed n low way * 2 ^ way) i in
      let here = bit_at-lt n i in
      elim (cases_eq (bit_at low i) 1) [
        | inl e ↦
            let test : (bit_at low i == 1) ≡ true = eq-eqb (bit_at low i) 1 e in
            let other = bit_at-lt n (i + way) in
            rw test (omega (arith, all, e, changed_at n low way i, up_at, not_both))
        | inr f ↦
            let test = ne_eqb (bit_at low i) 1 f in
            let no_cells = bit_at-lt low i in
            elim (cases_eq (bit_at (low * 2 ^ way) i) 1) [
              | inl e ↦
                  let test_up : (bit_at (low * 2 ^ way) i == 1) ≡ true = eq-eqb (bit_at (low * 2 ^ way) i) 1 e in
                  let other = bit_at-lt n (i - way) in
                  rw (test, test_up) (omega (arith, all, e, changed_at n low way i, up_at))
              | inr g ↦
                  let test_up = ne_eqb (bit_at (low * 2 ^ way) i) 1 g in
                  let none_up = bit_at-lt (low * 2 ^ way) i in
                  rw (test, test_up) (omega (arith, all, changed_at n low way i, up_at))
            ]
      ]

-- the low bits stay in the word when they are moved up
up_fits : (n low way : ℕ) → low * 2 ^ way < 2 ^ 64 → changed n low way * 2 ^ way % 2 ^ 64 ≡ changed n low way * 2 ^ way
up_fits n low way fits =
    let least : changed n low way * 2 ^ way ≤ low * 2 ^ way = mul-le-mul (and_le_r (bit_xor n (n / 2 ^ way)) low) (omega arith) in
    omega (arith, least, fits)

pub exchange_bits : (n low way : ℕ) → low * 2 ^ way < 2 ^ 64 → bit_and low (low * 2 ^ way) ≡ 0
    → (i : ℕ) → bit_at (bit_xor (bit_xor n (changed n low way)) (changed n low way * 2 ^ way % 2 ^ 64)) i ≡ bit_at n (exchanged_bit low way i)
exchange_bits n low way fits apart i = rw (up_fits n low way fits) (exchange_at n low way i apart)

-- ---- the two orders

abbrev wide : ℕ → ℕ
wide i = exchanged_bit 280375465148160 8 i

abbrev half : ℕ → ℕ
half i = exchanged_bit 57421771435671756 6 i

abbrev small : ℕ → ℕ
small i = exchanged_bit 868082074056920076 2 i

by_rows : (i : ℕ) → i < 64 → wide (half (small i)) ≡ place 3 (i % 8) (i / 8)
by_rows i h = eqb-true _ _ (agree_below_at (λ i. wide (half (small i)) == place 3 (i % 8) (i / 8)) (λ i. true) 64 i refl h)

by_corners : (i : ℕ) → i < 64 → small (half (wide (place 3 (i % 8) (i / 8)))) ≡ i
by_corners i h = eqb-true _ _ (agree_below_at (λ i. small (half (wide (place 3 (i % 8) (i / 8)))) == i) (λ i. true) 64 i refl h)

-- the cell of a bit in row order
place_of : (x y : ℕ) → x < 8 → y < 8 → place 3 x y ≡ place 3 ((8 * y + x) % 8) ((8 * y + x) / 8)
place_of x y a b =
    let p : (8 * y + x) % 8 ≡ x = omega arith in
    let q : (8 * y + x) / 8 ≡ y = omega arith in
    sym (ap (λ i. place 3 i ((8 * y + x) / 8)) p ∙ ap (place 3 x) q)

pub row_order : (x y : ℕ) → x < 8 → y < 8 → wide (half (small (8 * y + x))) ≡ place 3 x y
row_order x y a b = by_rows (8 * y + x) (omega arith) ∙ sym (place_of x y a b)

pub corner_order : (x y : ℕ) → x < 8 → y < 8 → small (half (wide (place 3 x y))) ≡ 8 * y + x
corner_order x y a b = ap (λ i. small (half (wide i))) (place_of x y a b) ∙ by_corners (8 * y + x) (omega arith)
