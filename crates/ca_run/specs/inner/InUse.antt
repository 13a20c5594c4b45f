-- Results that are carried from one store to another (our own).
use Rattle.std.specs.Prelude.{ℕ, List}
use Rattle.std.specs.List.{All}
use Rattle.ca_quad.specs.declared.node.Node.{Node}
use Rattle.ca_run.specs.Centre.{IsCentre}
use Rattle.ca_run.specs.declared.leaper.full_leap.FullLeap.{FullLeap}

-- it is a square of the list with its centre as far ahead as that can be known
abbrev pub IsTrueLeap : (List ℕ → ℕ) → List Node → FullLeap → Type 0
IsTrueLeap next nodes leap = (k : ℕ) × IsCentre next nodes leap.square k k leap.centre

-- each of them is
abbrev pub AreTrueLeaps : (List ℕ → ℕ) → List Node → List FullLeap → Type 0
AreTrueLeaps next nodes leaps = All (IsTrueLeap next nodes) leaps
