-- What the rules and claims of a text mean, whose patterns are given by the indices of their names and paths.
use Rattle.std.specs.Prelude.{ℕ, ◌<◌, List, [], slice_get, unwrap_or, length}
use Rattle.ca_text.specs.{Both.HoldsOfBoth, Kinds.HasGoodNumbers, Text.Claim, Text.map_patterns}
use Rattle.ca_text.specs.declared.line.{Claim.Claim as ClaimOf, ClaimLine.ClaimLine, NamePlace.NamePlace, NamedPath.NamedPath}

-- the path, or the name, at an index
abbrev pub path_at : List (List ℕ) → ℕ → List ℕ
path_at paths index = unwrap_or (slice_get paths index) []

-- the claim's patterns have paths among these, and its numbers are good
pub record IsAsked (paths : List (List ℕ)) (claim : ClaimOf ℕ) : Type 0 where
  pub within : HoldsOfBoth (λ i. i < length paths) claim.patterns
  pub numbers : HasGoodNumbers claim.kind

-- the claim about the paths at its indices, with the number of its line
abbrev pub claim_with_paths : List (List ℕ) → ClaimLine ℕ → ℕ × Claim
claim_with_paths paths l = (l.line, map_patterns (path_at paths) l.claim)

-- the name and the path at their indices
abbrev pub named_at : List (List ℕ) → List (List ℕ) → NamePlace → List ℕ × List ℕ
named_at names paths place = (path_at names place.name, path_at paths place.path)

-- a name, and the path at an index
abbrev pub named_path : List (List ℕ) → NamedPath → List ℕ × List ℕ
named_path paths n = (n.name.now, path_at paths n.path)

-- the claim about the names and paths at its indices, with the number of its line
abbrev pub claim_with_names : List (List ℕ) → List (List ℕ) → ClaimLine NamePlace → ℕ × ClaimOf (List ℕ × List ℕ)
claim_with_names names paths l = (l.line, map_patterns (named_at names paths) l.claim)

-- the claim's patterns have names and paths among these, and its numbers are good
pub record IsNamed (names paths : List (List ℕ)) (claim : ClaimOf NamePlace) : Type 0 where
  pub within : HoldsOfBoth (λ p. (p.name < length names) × (p.path < length paths)) claim.patterns
  pub numbers : HasGoodNumbers claim.kind
