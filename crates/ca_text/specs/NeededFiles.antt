-- Which files a claim text needs.
use Rattle.std.specs.Prelude.{◌≡◌, ◌≢◌, ℕ, List, [], ◌⊎◌}
use Rattle.ca_text.specs.{Text.ClaimText, Both.HoldsOfEither, SomeOf.SomeOf}

-- the text makes a claim, and a rule line names the path, or some claim's pattern is loaded from it
abbrev pub IsNeeded : ClaimText → List ℕ → Type 0
IsNeeded asked path = (asked.claims ≢ []) × (SomeOf (λ r. r ≡ path) asked.rules ⊎ SomeOf (HoldsOfEither (λ p. p.1 ≡ path)) asked.patterns)
