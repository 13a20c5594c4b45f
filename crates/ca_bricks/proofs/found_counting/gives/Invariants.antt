use Rattle.std.proofs.Common.{◌≡◌, ℕ, ◌<◌, slice_index}
use Rattle.ca_plane.specs.Prelude.{counting_next}
use Rattle.ca_bricks.specs.inner.Neighbourhoods.{neighbourhood}
use Rattle.ca_bricks.proofs.found_counting.gives.Given as goal

-- it gives the states of the neighbourhoods so far
abbrev pub invariant-numbers : goal.invariant-numbers
invariant-numbers l = (n : ℕ) → n < l.number → slice_index l.next_states n ≡ counting_next l.counting (neighbourhood n)
