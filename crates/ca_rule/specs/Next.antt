-- The next state of a cell under a B/S rule (Golly Help, QuickLife: birth and survival by the number of live neighbours).
use Rattle.std.specs.Prelude.{ℕ, ◌+◌, List, ◌==◌, slice_index, if◌then◌else◌}
use Rattle.ca_rule.specs.declared.{counts.Counts.Counts, hood.Hood.Hood}
use Rattle.ca_rule.specs.declared.hood.Hood.TheVariants.{Moore, VonNeumann, Hex}
use Rattle.ca_rule.specs.Counts.{is_count}

-- the sum of the counted neighbours among nine cells, in the order NW, N, NE, W, the centre, E, SW, S, SE:
-- all eight; N, W, E and S; or all but NE and SW
abbrev pub neighbour_count : Hood → List ℕ → ℕ
neighbour_count Moore nine =
    slice_index nine 0 + slice_index nine 1 + slice_index nine 2
    + slice_index nine 3 + slice_index nine 5
    + slice_index nine 6 + slice_index nine 7 + slice_index nine 8
neighbour_count VonNeumann nine = slice_index nine 1 + slice_index nine 3 + slice_index nine 5 + slice_index nine 7
neighbour_count Hex nine =
    slice_index nine 0 + slice_index nine 1
    + slice_index nine 3 + slice_index nine 5
    + slice_index nine 7 + slice_index nine 8

-- a dead centre is born where the sum is a birth count, a live one survives where it is a survival count; all else is 0
abbrev pub bs_next_state : Counts → Counts → ℕ → ℕ → ℕ
bs_next_state birth survival centre count =
    if centre == 0 then (if is_count birth count then 1 else 0)
    else (if centre == 1 then (if is_count survival count then 1 else 0) else 0)

-- the next state of the centre of nine cells
abbrev pub bs_next : Hood → Counts → Counts → List ℕ → ℕ
bs_next hood birth survival nine = bs_next_state birth survival (slice_index nine 4) (neighbour_count hood nine)
