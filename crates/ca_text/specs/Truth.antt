-- Which claims are true of pictures under a rule (our own; docs/CLAIMS.md).
use Rattle.std.specs.Prelude.{◌≡◌, ◌≢◌, ℕ, ◌≤◌, ◌<◌, ℤ, pos, List, [], IsTrue}
use Rattle.ca_plane.specs.Prelude.{Picture, cell, shifted, IsLive, after, IsAfter, IsLiveAfter}
use Rattle.ca_text.specs.declared.asks.{Asks.Asks, Expected.Expected, Forbidden.Forbidden}
use Rattle.ca_text.specs.declared.asks.Expected.TheVariants.{Own, Other, NoCells}
use Rattle.ca_text.specs.declared.asks.Forbidden.TheVariants.{Nothing, InPlace, Anywhere, EmptyPlane}

-- the cells that are expected: the pattern's own, the other's, or none
abbrev pub expected_cells : Expected → Picture → Picture → Picture
expected_cells Own cells other = cells
expected_cells Other cells other = other
expected_cells NoCells cells other = []

-- the claimed cells: those that are expected, moved by the vector
abbrev pub claimed_cells : Asks → Picture → Picture → Picture
claimed_cells asks cells other = shifted (expected_cells asks.expected cells other) asks.dx asks.dy

-- after n generations some cell isn't what it was
abbrev pub IsChanged : (List ℕ → ℕ) → Picture → ℕ → Type 0
IsChanged next cells n = (x : ℤ) × (y : ℤ) × (after next cells n x y ≢ cell cells x y)

-- after n generations the pattern is there again under no vector
abbrev pub IsNowhere : (List ℕ → ℕ) → Picture → ℕ → Type 0
IsNowhere next cells n = (dx dy : ℤ) → IsAfter next cells n (shifted cells dx dy) → ⊥

-- after n generations nothing is shown that is forbidden: the pattern in its place, the pattern anywhere, or an empty plane
abbrev pub ShowsNothingForbidden : (List ℕ → ℕ) → Picture → Forbidden → ℕ → Type 0
ShowsNothingForbidden next cells Nothing n = Unit {0}
ShowsNothingForbidden next cells InPlace n = IsChanged next cells n
ShowsNothingForbidden next cells Anywhere n = IsNowhere next cells n
ShowsNothingForbidden next cells EmptyPlane n = IsLiveAfter next cells n

-- a claim that asks this is true: the pattern is live where it must be, the claimed cells stand after the claimed generations,
-- and no earlier time, starting at 1, shows what is forbidden
pub record IsTrueClaim (next : List ℕ → ℕ) (cells other : Picture) (asks : Asks) : Type 0 where
  pub live : IsTrue asks.live → IsLive cells
  pub stands : IsAfter next cells asks.generations (claimed_cells asks cells other)
  pub least : (m : ℕ) → 1 ≤ m → m < asks.generations → ShowsNothingForbidden next cells asks.forbidden m

-- the vector by which an earlier return is forbidden: (0, 0) in its place, any anywhere, and else none
abbrev pub MayReturnBy : Forbidden → ℤ → ℤ → Type 0
MayReturnBy Nothing dx dy = ⊥
MayReturnBy InPlace dx dy = (dx ≡ pos 0) × (dy ≡ pos 0)
MayReturnBy Anywhere dx dy = Unit {0}
MayReturnBy EmptyPlane dx dy = ⊥
