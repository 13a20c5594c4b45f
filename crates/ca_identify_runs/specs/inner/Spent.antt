-- What work it takes to find the code of a plane.
use Rattle.std.specs.Prelude.{ℕ, ◌+◌, ◌*◌, ◌^◌, ◌≤◌, ◌<◌, ℤ}
use Rattle.ca_quad.specs.Prelude.{HoldsAll}
use Rattle.ca_pattern.specs.Prelude.{run_work}

-- from the old count of work to the new one it is at most a run of n generations of a tree of this level, and then
-- twice `limit` steps, each of a tree of a level that holds the live cells before it
abbrev pub TakesRunAndTwice : (old new start n : ℕ) → (stages : ℕ → ℤ → ℤ → ℕ) → (limit : ℕ) → Type 0
TakesRunAndTwice old new start n stages limit = (digits level : ℕ) → n < 2 ^ digits → 1 ≤ level → ((m : ℕ) → m < limit → HoldsAll level (stages (n + m)))
    → new ≤ old + run_work n start digits + 2 * limit * 14 ^ (level + 3)
