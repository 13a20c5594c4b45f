-- Cells of tiles on the plane, within the edge and on it.
use Rattle.std.proofs.Common.{◌≡◌, ℕ, zero, suc, ◌+◌, ◌-◌, ◌<◌, ◌≤◌, min, List, [], ◌∷◌, ◌++◌, slice_index, refl, sym, ap, ◌∙◌, arith, inl, inr}
use Rattle.std.specs.Prelude.{ℤ, pos, negsuc, ◌+ℤ◌, ◌-ℤ◌, replicate}
use Rattle.std.specs.Int.{bit_at}
use Rattle.std.proofs.Math.ListN.{get_or-append}
use Rattle.std.proofs.lemmas.Int.{ints}
use Rattle.std.proofs.lemmas.List.{get_or-replicate, get_or-append-add}
use Rattle.std.proofs.lemmas.Nat.Bits.{bit_at-zero, bit_at-suc, bit_at-lt, bit_at_ones, bit_at_ones_above}
use Rattle.ca_plane.specs.Prelude.{around, counting_next, row_cells}
use Rattle.ca_plane.specs.declared.counting.Counting.{Counting}
use Rattle.ca_plane.proofs.Numbers.{below_or_not}
use Rattle.ca_bricks.specs.Prelude.{tile_cell, IsWithinEdge, next_by_count, sum_round, nine_at}
use Rattle.ca_bricks.proofs.NeighbourSums.{sum_counted, sum_round-le}

-- the nine cells round a place that isn't in the first row or column
pub around-suc : (f : ℤ → ℤ → ℕ) (x y : ℕ) → around f (pos (suc x)) (pos (suc y))
    ≡ f (pos x) (pos y) ∷ f (pos (suc x)) (pos y) ∷ f (pos (suc (suc x))) (pos y)
    ∷ f (pos x) (pos (suc y)) ∷ f (pos (suc x)) (pos (suc y)) ∷ f (pos (suc (suc x))) (pos (suc y))
    ∷ f (pos x) (pos (suc (suc y))) ∷ f (pos (suc x)) (pos (suc (suc y))) ∷ f (pos (suc (suc x))) (pos (suc (suc y))) ∷ []
around-suc f x y =
    let a : pos (suc x) -ℤ pos 1 ≡ pos x = omega (arith, ints) in
    let b : pos (suc y) -ℤ pos 1 ≡ pos y = omega (arith, ints) in
    let c : pos (suc x) +ℤ pos 1 ≡ pos (suc (suc x)) = omega (arith, ints) in
    let d : pos (suc y) +ℤ pos 1 ≡ pos (suc (suc y)) = omega (arith, ints) in
    cc

-- the rows of ones at the places that aren't on the edge
abbrev pub inner : List ℕ
inner = 0 ∷ (replicate 14 32766 ++ 0 ∷ [])

inner_row : (y : ℕ) → y < 14 → slice_index inner (suc y) ≡ 32766
inner_row y h = get_or-append (replicate 14 32766) (0 ∷ []) 0 y h ∙ get_or-replicate 14 y 32766 0 h

inner_within : (x y : ℕ) → x < 14 → y < 14 → row_cells inner (suc x) (suc y) ≡ 1
inner_within x y h k = ap (λ r. bit_at r (suc x)) (inner_row y k) ∙ bit_at-suc 32766 x ∙ bit_at_ones 14 x h

past_last : (k : ℕ) → slice_index (0 ∷ []) k ≡ 0
past_last zero = refl
past_last (suc k) = refl

-- a row after the fourteen
later_row : (y : ℕ) → 14 ≤ y → slice_index inner (suc y) ≡ 0
later_row y h =
    let e : y ≡ 14 + (y - 14) = omega arith in
    ap (λ i. slice_index inner (suc i)) e ∙ get_or-append-add (replicate 14 32766) (0 ∷ []) (y - 14) 0 ∙ past_last (y - 14)

-- a bit of one of the fourteen rows that isn't in the middle
outer_bit : (x : ℕ) → (1 ≤ x → x ≤ 14 → ⊥) → bit_at 32766 x ≡ 0
outer_bit zero out = refl
outer_bit (suc x) out = elim (below_or_not x 14) [
  | inl b ↦ absurd (out (omega arith) (omega arith))
  | inr b ↦ bit_at-suc 32766 x ∙ bit_at_ones_above 14 x b
]

inner_edge : (x y : ℕ) → (IsWithinEdge (pos x) (pos y) → ⊥) → row_cells inner x y ≡ 0
inner_edge x zero out = bit_at-zero x
inner_edge x (suc y) out = elim (below_or_not y 14) [
  | inl b ↦ ap (λ r. bit_at r x) (inner_row y b) ∙ outer_bit x (λ h k. out (omega (arith, ints), omega (arith, ints), omega (arith, ints), omega (arith, ints)))
  | inr b ↦ ap (λ r. bit_at r x) (later_row y b) ∙ bit_at-zero x
]

-- what `told` gives for the nine cells round each place is there within the edge
pub told_within : (told : List ℕ → ℕ) (rows next : List ℕ)
    → ((x y : ℕ) → x < 14 → y < 14 → row_cells next (suc x) (suc y) ≡ told (nine_at (row_cells rows) x y))
    → (x y : ℤ) → IsWithinEdge x y → tile_cell next x y ≡ told (around (tile_cell rows) x y)
told_within told rows next is (negsuc x) y within = absurd (omega (arith, ints, within.0))
told_within told rows next is (pos x) (negsuc y) within = absurd (omega (arith, ints, within.2))
told_within told rows next is (pos zero) (pos y) within = absurd (omega (arith, ints, within.0))
told_within told rows next is (pos (suc x)) (pos zero) within = absurd (omega (arith, ints, within.2))
told_within told rows next is (pos (suc x)) (pos (suc y)) within =
    is x y (omega (arith, ints, within.1)) (omega (arith, ints, within.3)) ∙ sym (ap told (around-suc (tile_cell rows) x y))

-- so is what is counted and decided at each place
pub next_within : (counting : Counting) (rows next : List ℕ) (count : ℕ → ℕ → ℕ)
    → ((x y : ℕ) → x < 14 → y < 14 → count (suc x) (suc y) ≡ sum_round counting.neighbourhood (row_cells rows) x y)
    → ((x y : ℕ) → x < 16 → y < 16 → count x y ≤ 8 → row_cells next x y ≡ next_by_count counting.birth counting.survival (row_cells rows x y) (count x y))
    → (x y : ℤ) → IsWithinEdge x y → tile_cell next x y ≡ counting_next counting (around (tile_cell rows) x y)
next_within counting rows next count counted lives_next = told_within (counting_next counting) rows next (λ x y h k.
    let cells = row_cells rows in
    let n : count (suc x) (suc y) ≡ sum_round counting.neighbourhood cells x y = counted x y h k in
    let low = sum_round-le counting.neighbourhood cells x y (λ u v. bit_at-lt (slice_index rows v) u) in
    let most : count (suc x) (suc y) ≤ 8 = omega (arith, n, low) in
    lives_next (suc x) (suc y) (omega arith) (omega arith) most
    ∙ ap (next_by_count counting.birth counting.survival (cells (suc x) (suc y))) (n ∙ sum_counted counting.neighbourhood cells x y))

-- what is cut at the edge stays within it
pub cut_within : (next result : List ℕ) → ((x y : ℕ) → row_cells result x y ≡ min (row_cells next x y) (row_cells inner x y))
    → (x y : ℤ) → IsWithinEdge x y → tile_cell result x y ≡ tile_cell next x y
cut_within next result cut (negsuc x) y within = absurd (omega (arith, ints, within.0))
cut_within next result cut (pos x) (negsuc y) within = absurd (omega (arith, ints, within.2))
cut_within next result cut (pos zero) (pos y) within = absurd (omega (arith, ints, within.0))
cut_within next result cut (pos (suc x)) (pos zero) within = absurd (omega (arith, ints, within.2))
cut_within next result cut (pos (suc x)) (pos (suc y)) within =
    let one = inner_within x y (omega (arith, ints, within.1)) (omega (arith, ints, within.3)) in
    let low : row_cells next (suc x) (suc y) < 2 = bit_at-lt (slice_index next (suc y)) (suc x) in
    let kept = cut (suc x) (suc y) in
    omega arith

-- and 0 on it and elsewhere
pub next_edge : (next result : List ℕ) → ((x y : ℕ) → row_cells result x y ≡ min (row_cells next x y) (row_cells inner x y))
    → (x y : ℤ) → (IsWithinEdge x y → ⊥) → tile_cell result x y ≡ 0
next_edge next result cut (negsuc x) y out = refl
next_edge next result cut (pos x) (negsuc y) out = refl
next_edge next result cut (pos x) (pos y) out = let e = inner_edge x y out in let k = cut x y in omega (arith, e, k)
