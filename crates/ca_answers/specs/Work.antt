-- How much work the judgement of a claim may need.
use Rattle.std.specs.Prelude.{ℕ, ◌+◌, ◌*◌, ◌<◌, ◌≤◌, ◌^◌, min, ℤ}
use Rattle.ca_quad.specs.Prelude.{HoldsAll}
use Rattle.ca_text.specs.declared.asks.{Asks.Asks, Forbidden.Forbidden}
use Rattle.ca_text.specs.declared.asks.Forbidden.TheVariants.{Nothing, InPlace, Anywhere, EmptyPlane}

-- how often a pattern may be advanced by some generations for a claim that asks this: once, and where something is
-- forbidden at earlier times, no more often than it claims generations; where that is an empty plane, also no more than
-- 64 times, since a death is found by halves
abbrev pub most_runs : Forbidden → (generations : ℕ) → ℕ
most_runs Nothing generations = 1
most_runs InPlace generations = generations
most_runs Anywhere generations = generations
most_runs EmptyPlane generations = min generations 64

-- the work is no more than `most_runs` runs may need of a tree of this level: 14 to the power of the level, the binary
-- digits of the generations, and 2
abbrev pub IsNoMoreThan : ℕ → Asks → (level : ℕ) → Type 0
IsNoMoreThan work asks level = (digits : ℕ) → asks.generations < 2 ^ digits → work ≤ most_runs asks.forbidden asks.generations * 14 ^ (level + digits + 2)

-- the same of any level that holds these cells
abbrev pub MayBeUsedUp : ℕ → Asks → (ℤ → ℤ → ℕ) → Type 0
MayBeUsedUp work asks cells = (level : ℕ) → 1 ≤ level → HoldsAll level cells → IsNoMoreThan work asks level
