-- Rules of two states that go by the number of live cells among the eight round a cell: Life and its kin (Golly Help,
-- QuickLife). A set of such numbers is given as a mask: n is in it where bit n is 1.
use Rattle.std.specs.Prelude.{◌≡◌, ℕ, ◌+◌, ◌<◌, List, length, ◌==◌, slice_index, if◌then◌else◌}
use Rattle.std.specs.List.{All}
use Rattle.std.specs.Int.{bit_at}

-- the sum of the eight cells round the centre of nine
abbrev pub eight_sum : List ℕ → ℕ
eight_sum nine =
    slice_index nine 0 + slice_index nine 1 + slice_index nine 2
    + slice_index nine 3 + slice_index nine 5
    + slice_index nine 6 + slice_index nine 7 + slice_index nine 8

-- the next state of the centre: the bit of that sum, in the birth mask where the centre is 0, else in the survival mask
abbrev pub moore_next : ℕ → ℕ → List ℕ → ℕ
moore_next birth survive nine = bit_at (if slice_index nine 4 == 0 then birth else survive) (eight_sum nine)

-- a rule with `states` states and this next state has two states, and goes by these masks
pub record IsMoore (states : ℕ) (next : List ℕ → ℕ) (birth survive : ℕ) : Type 0 where
  pub two_states : states ≡ 2
  pub goes_by : (nine : List ℕ) → length nine ≡ 9 → All (λ s. s < 2) nine → next nine ≡ moore_next birth survive nine
