-- A pattern after some generations, and why it isn't reached.
use Rattle.std.specs.Prelude.{◌≡◌, ℕ, ◌+◌, ◌<◌, ◌≤◌, ℤ}
use Rattle.ca_plane.specs.Prelude.{cells_after, generation_limit}
use Rattle.ca_rule.specs.Prelude.{rule_value, next_of}
use Rattle.ca_pattern.specs.declared.{pattern.Pattern.Pattern, located_fault.LocatedFault.LocatedFault}
use Rattle.ca_pattern.specs.declared.located_fault.LocatedFault.TheVariants.{GenTooLarge, Work, Memory}
use Rattle.ca_pattern.specs.Prelude.{MayNeedRun, IsPatternOf}

-- the pattern is that of these cells after n generations, under the same rule, and n is added to its generation
pub record IsEvolvedFrom (first : Pattern) (cells : ℤ → ℤ → ℕ) (n : ℕ) (later : Pattern) : Type 0 where
  pub is_pattern : IsPatternOf (cells_after (next_of (rule_value first.rule)) cells n) later
  pub rule : later.rule ≡ first.rule
  pub kind : later.kind ≡ first.kind
  pub added : later.generation ≡ first.generation + n

-- the first reason for which it isn't reached, where `work` units of work may be done: the generation would be too
-- large, or work is out; out of memory may come in place of that, but not where no generation is run
abbrev pub IsUnreachedFor : Pattern → (ℤ → ℤ → ℕ) → (n work : ℕ) → LocatedFault → Type 0
IsUnreachedFor first cells n work GenTooLarge = generation_limit ≤ first.generation + n
IsUnreachedFor first cells n work Work = (first.generation + n < generation_limit) × MayNeedRun work n cells
IsUnreachedFor first cells n work Memory = (1 ≤ n) × (first.generation + n < generation_limit)
IsUnreachedFor first cells n work fault = ⊥
