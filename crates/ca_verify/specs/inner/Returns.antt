-- When a pattern is back, or dead, before a claim's generations are over.
use Rattle.std.specs.Prelude.{ℕ, ◌≤◌, ◌<◌, List, []}
use Rattle.ca_plane.specs.Prelude.{Picture, shifted, IsAfter}
use Rattle.ca_answers.specs.declared.verdict.Refutation.{Refutation}
use Rattle.ca_answers.specs.declared.verdict.Refutation.TheVariants.{Earlier, Died}
use Rattle.ca_text.specs.declared.asks.Forbidden.{Forbidden}
use Rattle.ca_text.specs.declared.asks.Forbidden.TheVariants.{EmptyPlane}
use Rattle.ca_text.specs.Prelude.{ShowsNothingForbidden, MayReturnBy}

-- at no time from 1 onwards, before n, is what is forbidden shown
abbrev pub IsSparedBefore : (List ℕ → ℕ) → Picture → Forbidden → ℕ → Type 0
IsSparedBefore next cells forbidden n = (k : ℕ) → 1 ≤ k → k < n → ShowsNothingForbidden next cells forbidden k

-- the first return of the pattern, and it is before n
abbrev pub IsFirstReturn : (List ℕ → ℕ) → Picture → Forbidden → ℕ → Refutation → Type 0
IsFirstReturn next cells forbidden n (Earlier m dx dy) = (1 ≤ m) × (m < n) × MayReturnBy forbidden dx dy
    × IsAfter next cells m (shifted cells dx dy) × IsSparedBefore next cells forbidden m
IsFirstReturn next cells forbidden n refutation = ⊥

-- the earliest time after which the plane is empty, and it is before n
abbrev pub IsFirstDeath : (List ℕ → ℕ) → Picture → ℕ → Refutation → Type 0
IsFirstDeath next cells n (Died m) = (1 ≤ m) × (m < n) × IsAfter next cells m [] × IsSparedBefore next cells EmptyPlane m
IsFirstDeath next cells n refutation = ⊥
