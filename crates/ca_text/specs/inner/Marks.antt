-- Marks of paths, by their indices.
use Rattle.std.specs.Prelude.{ℕ, List, [], ◌∷◌, set, Bool, true}
use Rattle.ca_text.specs.declared.{both.Both.Both, line.ClaimLine.ClaimLine, line.NamePlace.NamePlace}

-- the marks, with those at these indices set
abbrev pub with_marks : List Bool → List ℕ → List Bool
with_marks marks [] = marks
with_marks marks (i ∷ is) = with_marks (set marks i true) is

-- and with those of the paths at both places
abbrev pub both_marked : List Bool → Both NamePlace → List Bool
both_marked marks places = with_marks marks (places.first.path ∷ places.second.path ∷ [])

-- and with those of all patterns of these claims
abbrev pub claims_marked : List Bool → List (ClaimLine NamePlace) → List Bool
claims_marked marks [] = marks
claims_marked marks (l ∷ ls) = claims_marked (both_marked marks l.claim.patterns) ls
