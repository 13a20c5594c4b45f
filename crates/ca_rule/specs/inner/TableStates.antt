-- Sets of states as the bits of words.
use Rattle.std.specs.Prelude.{ℕ, ◌/◌, ◌%◌, ◌*◌, List, Bool, ◌==◌, length, filter, slice_index}
use Rattle.std.specs.Int.{bit_at}
use Rattle.std.specs.List.{range_with_len}

-- the state's bit is set, where each word has the bits of 64 states
abbrev pub is_in : List ℕ → ℕ → Bool
is_in words state = bit_at (slice_index words (state / 64)) (state % 64) == 1

-- the states whose bits are set, rising
abbrev pub states_in : List ℕ → List ℕ
states_in words = filter (is_in words) (range_with_len 0 (64 * length words))
