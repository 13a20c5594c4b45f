-- Rules under which a live cell that doesn't stay live ages before it is dead (Golly Help, Algorithms: Generations). State 0 is a dead cell,
-- state 1 a live one, and a cell of state 2 or more is dying.
use Rattle.std.specs.Prelude.{◌≡◌, ℕ, ◌+◌, ◌<◌, List, length, map, ◌==◌, ◌&&◌, nat_lt, slice_index, if◌then◌else◌}
use Rattle.std.specs.List.{All}
use Rattle.ca_plane.specs.Counting.{counting_next}
use Rattle.ca_plane.specs.declared.counting.Ageing.{Ageing}

-- 1 for a live cell, and 0 for one that is dead or dying
abbrev pub liveness : ℕ → ℕ
liveness state = if state == 1 then 1 else 0

-- the state after this one; where that reaches the number of states, the cell is dead
abbrev pub older : ℕ → ℕ → ℕ
older states state = if nat_lt (state + 1) states then state + 1 else 0

-- the next state of a cell, of which the counting says 1 or 0: a dead one is live where that is 1, and a live one stays live; every other
-- cell that isn't dead is a state older
abbrev pub aged : (states centre lives : ℕ) → ℕ
aged states centre lives =
    if centre == 0 then (if lives == 1 then 1 else 0)
    else (if (centre == 1) && (lives == 1) then 1 else older states centre)

-- the next state of the centre of nine cells, of which the live ones are counted
abbrev pub ageing_next : Ageing → List ℕ → ℕ
ageing_next ageing nine = aged ageing.states (slice_index nine 4) (counting_next ageing.counting (map liveness nine))

-- a rule with `states` states and this next state has as many as `ageing` says, and its cells age so
pub record GoesByAgeing (states : ℕ) (next : List ℕ → ℕ) (ageing : Ageing) : Type 0 where
  pub as_many : states ≡ ageing.states
  pub goes_by : (nine : List ℕ) → length nine ≡ 9 → All (λ s. s < states) nine → next nine ≡ ageing_next ageing nine
