-- What a leaper remembers.
use Rattle.std.specs.Prelude.{ℕ, ◌*◌, ◌≤◌, List, length}
use Rattle.std.specs.List.{Contains}
use Rattle.ca_quad.specs.declared.node.Node.{Node}
use Rattle.ca_run.specs.Centre.{IsCentre, IsLeap}

-- a result: the centre of a square as far ahead as it can be known, or after 2 ^ j generations, or the square in the
-- middle of four as far ahead as it can be known
pub data LeapResult : Type 0 where
  FullLeap : (square centre : ℕ) → LeapResult
  Centre : (square j centre : ℕ) → LeapResult
  LeapOfFour : (nw ne sw se middle : ℕ) → LeapResult

-- the result is true of these squares
abbrev pub IsTrueResult : (List ℕ → ℕ) → List Node → LeapResult → Type 0
IsTrueResult next nodes (FullLeap square centre) = (k : ℕ) × IsCentre next nodes square k k centre
IsTrueResult next nodes (Centre square j centre) = (k : ℕ) × IsCentre next nodes square k j centre
IsTrueResult next nodes (LeapOfFour nw ne sw se middle) = (k : ℕ) × IsLeap next nodes k nw ne sw se middle

-- what is remembered with a memo of `memo` entries: true results, and at most 64 for each entry
pub record Remembers (next : List ℕ → ℕ) (nodes : List Node) (results : List LeapResult) (memo : ℕ) : Type 0 where
  pub true_results : (result : LeapResult) → Contains results result → IsTrueResult next nodes result
  pub most : length results ≤ 64 * memo
