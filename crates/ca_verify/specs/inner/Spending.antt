-- What it takes of a leaper's work to find a death (our own).
use Rattle.std.specs.Prelude.{ℕ, ◌+◌, ◌-◌, ◌≤◌, ◌^◌, min}
use Rattle.ca_evolution.specs.Prelude.{Takes}

-- how often generations are halved at most until one is left, where there are no more than 2^60
abbrev pub most_halvings : ℕ
most_halvings = 60

-- how often a plane is looked at to find the death of a pattern that is dead after n generations: no more often than there are halvings,
-- and than there are earlier generations
abbrev pub most_looks : (n : ℕ) → ℕ
most_looks n = min most_halvings (n - 1)

-- `left` of n generations are left in which a death is looked for, and can be halved `halvings` times; `runs` runs were
-- taken till then
pub record TakesHalves (old new : ℕ) (left level n : ℕ) : Type 0 where
  pub runs : ℕ
  pub halvings : ℕ
  pub few : runs + halvings ≤ most_halvings
  pub early : runs + left ≤ n
  pub near : left ≤ 2 ^ halvings
  pub takes : Takes old new runs level n
