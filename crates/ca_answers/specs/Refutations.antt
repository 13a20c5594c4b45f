-- What a refutation of a claim has to show (our own; docs/CLAIMS.md).
use Rattle.std.specs.Prelude.{◌≡◌, ◌≢◌, ℕ, ◌≤◌, ◌<◌, List, [], IsTrue}
use Rattle.ca_plane.specs.Prelude.{Picture, cell, shifted, IsLive, after, IsAfter}
use Rattle.ca_text.specs.declared.asks.Asks.{Asks}
use Rattle.ca_text.specs.declared.asks.Forbidden.TheVariants.{EmptyPlane}
use Rattle.ca_answers.specs.declared.verdict.Refutation.{Refutation}
use Rattle.ca_answers.specs.declared.verdict.Refutation.TheVariants.{Empty, Differs, Earlier, Died}
use Rattle.ca_text.specs.Prelude.{MayReturnBy, ShowsNothingForbidden, claimed_cells}

-- a claim that asks this is false for this reason: the pattern must be live and isn't; or a cell after the claimed generations
-- isn't the claimed one; or the claimed cells stand, but what is forbidden is shown at an earlier time, and at no time before that: the pattern
-- is back, or the plane is empty
abbrev pub IsReason : (List ℕ → ℕ) → Picture → Picture → Asks → Refutation → Type 0
IsReason next cells other asks Empty = IsTrue asks.live × (IsLive cells → ⊥)
IsReason next cells other asks (Differs x y found expected generations) = (IsTrue asks.live → IsLive cells)
    × (generations ≡ asks.generations) × (after next cells generations x y ≡ found)
    × (cell (claimed_cells asks cells other) x y ≡ expected) × (found ≢ expected)
IsReason next cells other asks (Earlier m dx dy) = IsLive cells
    × IsAfter next cells asks.generations (claimed_cells asks cells other) × (1 ≤ m) × (m < asks.generations)
    × MayReturnBy asks.forbidden dx dy × IsAfter next cells m (shifted cells dx dy)
    × ((k : ℕ) → 1 ≤ k → k < m → ShowsNothingForbidden next cells asks.forbidden k)
IsReason next cells other asks (Died m) = IsLive cells
    × IsAfter next cells asks.generations (claimed_cells asks cells other) × (1 ≤ m) × (m < asks.generations)
    × (asks.forbidden ≡ EmptyPlane) × IsAfter next cells m []
    × ((k : ℕ) → 1 ≤ k → k < m → ShowsNothingForbidden next cells asks.forbidden k)

-- two reasons are of one kind: both want of live cells; or both cells that differ, after as many generations; or one earlier return, or one
-- earlier death
abbrev pub IsSameReason : Refutation → Refutation → Type 0
IsSameReason Empty Empty = Unit {0}
IsSameReason (Differs x y found expected g) (Differs u v shown asked h) = g ≡ h
IsSameReason (Earlier m dx dy) (Earlier n u v) = (m ≡ n) × (dx ≡ u) × (dy ≡ v)
IsSameReason (Died m) (Died n) = m ≡ n
IsSameReason one two = ⊥
