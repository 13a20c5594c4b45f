-- Patterns that are back.
use Rattle.std.proofs.Common.{ℕ, List, ◌∙◌}
use Rattle.std.specs.Prelude.{ℤ}
use Rattle.ca_plane.specs.Prelude.{Picture, shifted, IsAfter}
use Rattle.ca_text.proofs.Shifts.{unmoved}
use Rattle.ca_text.specs.declared.asks.Forbidden.{Forbidden}
use Rattle.ca_text.specs.declared.asks.Forbidden.TheVariants.{Nothing, InPlace, Anywhere, EmptyPlane}
use Rattle.ca_text.specs.Prelude.{ShowsNothingForbidden, MayReturnBy}

-- a pattern that is back by a vector that counts is back
pub back : (next : List ℕ → ℕ) (cells : Picture) (forbidden : Forbidden) (m : ℕ) (dx dy : ℤ) → MayReturnBy forbidden dx dy → IsAfter next cells m (shifted cells dx dy) → ShowsNothingForbidden next cells forbidden m → ⊥
back next cells Nothing m dx dy may h not = may
back next cells InPlace m dx dy may h not = not.2 (h not.0 not.1 ∙ unmoved cells dx dy not.0 not.1 may.0 may.1)
back next cells Anywhere m dx dy may h not = not dx dy h
back next cells EmptyPlane m dx dy may h not = may
