-- What runs take of a leaper's work (our own).
use Rattle.std.specs.Prelude.{◌≡◌, ℕ, ◌+◌, ◌*◌, ◌<◌, ◌≤◌, ◌^◌}
use Rattle.ca_run.specs.Prelude.{LeaperView}
use Rattle.ca_pattern.specs.declared.limits.Limits.{Limits}

-- a leaper may remember and compute as much as the limits say
pub record HasLimits {Rule : Type 0} (limits : Limits) (leaper : LeaperView Rule) : Type 0 where
  pub memo : leaper.memo ≡ limits.memo
  pub work : leaper.spent.limit ≡ limits.work

-- from the old count of work to the new one it is at most `runs` runs of a tree of this level, each of at most n
-- generations
abbrev pub Takes : (old new : ℕ) → (runs level n : ℕ) → Type 0
Takes old new runs level n = (digits : ℕ) → n < 2 ^ digits → new ≤ old + runs * 14 ^ (level + digits + 2)
