-- Which bricks see what changed of a brick.
use Rattle.std.proofs.Common.{◌≡◌, ℕ, zero, suc, ◌+◌, ◌-◌, ◌/◌, ◌%◌, ◌^◌, ◌<◌, inl, inr, List, [], length, get_or, refl, sym, ap, subst, ◌∙◌, arith, slice_index, slice_set}
use Rattle.std.specs.Prelude.{bit_and, bit_or, bit_xor}
use Rattle.std.specs.Int.{bit_at}
use Rattle.std.proofs.lemmas.Bool.{cases_eq}
use Rattle.std.proofs.lemmas.List.{get_or-set_same, get_or-set_other, length-set}
use Rattle.std.proofs.lemmas.Grind.{get_or-set_at}
use Rattle.std.proofs.lemmas.Nat.Bits.{bit_at-zero, bit_at-lt, bit_at_and, bit_at_or, bit_at_xor, same_from_bits}
use Rattle.ca_plane.proofs.Numbers.{below_or_not}
use Rattle.ca_bricks.specs.Prelude.{HasNeighbours, IsNotIn, column_at}
use Rattle.ca_bricks.proofs.BrickRounds.{column_at-middle, column_at-south}

-- where nothing changed, the bits are the same
pub xor_bits : (a b x : ℕ) → bit_at (bit_xor a b) x ≡ 0 → bit_at a x ≡ bit_at b x
xor_bits a b x e = omega (arith, bit_at_xor a b x, bit_at-lt a x, bit_at-lt b x)

pub xor_same : (a b : ℕ) → bit_xor a b ≡ 0 → a ≡ b
xor_same a b e = same_from_bits a b (λ x. xor_bits a b x (ap (λ n. bit_at n x) e ∙ bit_at-zero x))

-- the first bit and the last one of a word
pub first_none : (word : ℕ) → bit_and word 1 ≡ 0 → bit_at word 0 ≡ 0
first_none word e =
    let one : bit_at 1 0 ≡ 1 = refl in
    omega (arith, one, bit_at_and word 1 0, ap (λ n. bit_at n 0) e, bit_at-zero 0, bit_at-lt word 0)

pub last_none : (word : ℕ) → word / 2 ^ 63 ≡ 0 → bit_at word 63 ≡ 0
last_none word e = ap (λ n. n % 2) e

-- what changed in one row more
pub changed_more : (new old : List ℕ) (all y : ℕ) → ((x j : ℕ) → j < y → bit_at all x ≡ 0 → bit_at (slice_index new j) x ≡ bit_at (slice_index old j) x)
    → (x j : ℕ) → j < y + 1 → bit_at (bit_or all (bit_xor (slice_index new y) (slice_index old y))) x ≡ 0 → bit_at (slice_index new j) x ≡ bit_at (slice_index old j) x
changed_more new old all y so_far x j h e =
    let parts = bit_at_or all (bit_xor (slice_index new y) (slice_index old y)) x in
    elim (cases_eq j y) [
      | inl same ↦
          let here = xor_bits (slice_index new y) (slice_index old y) x (omega (arith, parts, e)) in
          subst (λ k. bit_at (slice_index new k) x ≡ bit_at (slice_index old k) x) (sym same) here
      | inr other ↦ so_far x j (omega arith) (omega (arith, parts, e))
    ]

-- what holds of a place holds of a brick that lies there: where it isn't in the list, a number is 0
pub at_place : (across count : ℕ) (list : List ℕ) (place t n : ℕ) → place ≡ t → HasNeighbours across count t → IsNotIn list t → (HasNeighbours across count place → IsNotIn list place → n ≡ 0) → n ≡ 0
at_place across count list place t n e has not_in none = none (subst (HasNeighbours across count) (sym e) has) (subst (IsNotIn list) (sym e) not_in)

-- the rows of a brick, with one above and one below
pub column_made : (across : ℕ) (bricks : List (List ℕ)) (t : ℕ) (column : List ℕ) (above below : ℕ) → length column ≡ 18
    → ((j : ℕ) → j < 16 → slice_index column (suc j) ≡ slice_index (get_or bricks t []) j)
    → above ≡ slice_index (get_or bricks (t - across) []) 15 → below ≡ slice_index (get_or bricks (t + across) []) 0
    → (y : ℕ) → y < 18 → slice_index (slice_set (slice_set column 0 above) 17 below) y ≡ column_at across bricks t y
column_made across bricks t column above below size made is_above is_below zero h =
    get_or-set_other (slice_set column 0 above) 17 0 below 0 (λ e. omega arith) ∙ get_or-set_same column 0 above 0 (omega arith) ∙ is_above
column_made across bricks t column above below size made is_above is_below (suc y) h = elim (below_or_not y 16) [
  | inl near ↦
      get_or-set_other (slice_set column 0 above) 17 (suc y) below 0 (λ e. omega arith) ∙ get_or-set_other column 0 (suc y) above 0 (λ e. omega arith) ∙ made y near
      ∙ sym (column_at-middle across bricks t y near)
  | inr far ↦
      let last : suc y ≡ 17 = omega arith in
      get_or-set_at (slice_set column 0 above) 17 (suc y) below 0 last (omega (arith, length-set column 0 above)) ∙ is_below
      ∙ sym (column_at-south across bricks t y far)
]
