-- Rows of bricks.
use Rattle.std.proofs.Common.{◌≡◌, ℕ, zero, suc, ◌+◌, ◌<◌, ◌≤◌, inl, inr, Bool, true, false, nat_lt, if◌then◌else◌, List, length, sym, ap, ap₂, ◌∙◌, arith, slice_index, slice_set}
use Rattle.std.specs.Int.{bit_at}
use Rattle.std.proofs.lemmas.Bool.{cases_eq}
use Rattle.std.proofs.lemmas.List.{get_or-set_other}
use Rattle.std.proofs.lemmas.Grind.{get_or-set_at}
use Rattle.std.proofs.lemmas.Nat.Bits.{bit_at-lt}
use Rattle.ca_plane.specs.declared.counting.Neighbourhood.{Neighbourhood}
use Rattle.ca_plane.specs.Prelude.{row_cells}
use Rattle.ca_bricks.specs.Prelude.{next_by_count, sum_round, wide_bit, round_cells}
use Rattle.ca_bricks.proofs.NeighbourSums.{sum_round-le}
use Rattle.ca_bricks.specs.declared.round.Round.{Round}
use Rattle.ca_bricks.proofs.BrickBits.{middle_bit}

-- one row more
pub rows_grow : (f : ℕ → ℕ → ℕ) (rows : List ℕ) (y word : ℕ) → y < length rows → ((x j : ℕ) → x < 64 → j < y → row_cells rows x j ≡ f x j) → ((x : ℕ) → x < 64 → bit_at word x ≡ f x y)
    → (x j : ℕ) → x < 64 → j < y + 1 → row_cells (slice_set rows y word) x j ≡ f x j
rows_grow f rows y word long made new x j h k = elim (cases_eq j y) [
  | inl e ↦ ap (λ r. bit_at r x) (get_or-set_at rows y j word 0 e long) ∙ new x h ∙ ap (f x) (sym e)
  | inr n ↦ ap (λ r. bit_at r x) (get_or-set_other rows y j word 0 n) ∙ made x j h (omega arith)
]

-- each is 0 or 1
pub wide_bit-lt : (west row east x : ℕ) → wide_bit west row east x < 2
wide_bit-lt west row east zero = bit_at-lt west 63
wide_bit-lt west row east (suc x) = either (nat_lt x 64)
  where
    either : (near : Bool) → (if near then bit_at row x else bit_at east 0) < 2
    either true = bit_at-lt row x
    either false = bit_at-lt east 0

-- what comes next by the sums of three rows comes next by the sum round each cell
pub row_made : (counted : Neighbourhood) (round : Round) (birth survive y word row : ℕ) (count : ℕ → ℕ) (f : ℕ → ℕ → ℕ) → row ≡ slice_index round.here (suc y)
    → ((x : ℕ) → x < 64 → count x ≡ sum_round counted (round_cells round) x y)
    → ((x : ℕ) → x < 64 → count x ≤ 8 → bit_at word x ≡ next_by_count birth survive (bit_at row x) (count x))
    → (x : ℕ) → x < 64 → bit_at word x ≡ next_by_count birth survive (round_cells round (suc x) (suc y)) (sum_round counted (round_cells round) x y)
row_made counted round birth survive y word row count f is sums made x h =
    let e = sums x h in
    let low = sum_round-le counted (round_cells round) x y (λ u v. wide_bit-lt (slice_index round.west v) (slice_index round.here v) (slice_index round.east v) u) in
    let own : bit_at row x ≡ round_cells round (suc x) (suc y)
    = ap (λ r. bit_at r x) is ∙ sym (middle_bit (slice_index round.west (suc y)) (slice_index round.here (suc y)) (slice_index round.east (suc y)) x h) in
    made x h (omega (arith, e, low)) ∙ ap₂ (next_by_count birth survive) own e
