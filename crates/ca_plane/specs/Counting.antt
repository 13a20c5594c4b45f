-- Rules of two states that go by the number of live cells among some neighbours of a cell (Golly Help, QuickLife): all eight of them,
-- as Life and its kin, or four or six.
use Rattle.std.specs.Prelude.{◌≡◌, ℕ, ◌+◌, ◌<◌, List, length, ◌==◌, slice_index, if◌then◌else◌}
use Rattle.std.specs.List.{All}
use Rattle.std.specs.Int.{bit_at}
use Rattle.ca_plane.specs.Moore.{eight_sum}
use Rattle.ca_plane.specs.declared.counting.{Counting.Counting, Neighbourhood.Neighbourhood}
use Rattle.ca_plane.specs.declared.counting.Neighbourhood.TheVariants.{Moore, VonNeumann, Hexagonal}

-- the sum of the counted neighbours among nine cells, in the order NW, N, NE, W, the centre, E, SW, S, SE:
-- all eight; N, W, E and S; or all but NE and SW
abbrev pub counted_sum : Neighbourhood → List ℕ → ℕ
counted_sum Moore nine = eight_sum nine
counted_sum VonNeumann nine = slice_index nine 1 + slice_index nine 3 + slice_index nine 5 + slice_index nine 7
counted_sum Hexagonal nine =
    slice_index nine 0 + slice_index nine 1
    + slice_index nine 3 + slice_index nine 5
    + slice_index nine 7 + slice_index nine 8

-- the next state of the centre: the bit of that sum, in the mask of births where the centre is 0, else in that of survivals
abbrev pub counting_next : Counting → List ℕ → ℕ
counting_next counting nine =
    bit_at (if slice_index nine 4 == 0 then counting.birth else counting.survival) (counted_sum counting.neighbourhood nine)

-- a rule with `states` states and this next state has two states, and goes by this counting
pub record GoesByCounting (states : ℕ) (next : List ℕ → ℕ) (counting : Counting) : Type 0 where
  pub two_states : states ≡ 2
  pub goes_by : (nine : List ℕ) → length nine ≡ 9 → All (λ s. s < 2) nine → next nine ≡ counting_next counting nine
