-- Cells of several states as bits, and as a list that squares are made of (our own).
use Rattle.std.specs.Prelude.{ℕ, ◌+◌, ◌-◌, ◌*◌, ◌==◌, if◌then◌else◌, ℤ, List, slice_index}
use Rattle.ca_plane.specs.Prelude.{ShowsPlane}

-- the states, eight in each row, show the plane from (a, b) onwards: those from `place` onwards, as far as the side
-- reaches
pub record StatesShow (side : ℕ) (states : List ℕ) (place : ℕ) (p : ℤ → ℤ → ℕ) (a b : ℤ) : Type 0 where
  pub looks : ShowsPlane side (λ x y. slice_index states (place + (8 * y + x))) p a b

-- the state of a cell, from whether it is live and after how many generations it is dead: a dying cell that is dead next has the greatest state
abbrev pub told_state : (greatest live number : ℕ) → ℕ
told_state greatest live number = if live == 1 then 1 else (if number == 0 then 0 else greatest - (number - 1))
