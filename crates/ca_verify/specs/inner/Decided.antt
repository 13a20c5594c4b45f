-- What a verdict says of a claim about cells that are at hand.
use Rattle.std.specs.Prelude.{◌≡◌, ◌≢◌, ℕ, ◌≤◌, List, IsTrue, ◌⊎◌}
use Rattle.ca_plane.specs.Prelude.{Picture, most_generations, longest_period}
use Rattle.ca_answers.specs.declared.verdict.Verdict.{Verdict}
use Rattle.ca_answers.specs.declared.verdict.Verdict.TheVariants.{Yes, No, Refused}
use Rattle.ca_answers.specs.declared.cause.Cause.TheVariants.{Work, Memory}
use Rattle.ca_text.specs.declared.asks.{Asks.Asks, Forbidden.Forbidden}
use Rattle.ca_text.specs.declared.asks.Forbidden.TheVariants.{Nothing, InPlace, Anywhere, EmptyPlane}
use Rattle.ca_text.specs.declared.asks.Expected.TheVariants.{Own, NoCells}
use Rattle.ca_text.specs.Prelude.{IsShift, MayReturnBy, IsTrueClaim}
use Rattle.ca_answers.specs.Prelude.{IsReason}

-- a return of the pattern is forbidden, in its place or anywhere
abbrev pub ForbidsReturns : Forbidden → Type 0
ForbidsReturns Nothing = ⊥
ForbidsReturns InPlace = Unit {0}
ForbidsReturns Anywhere = Unit {0}
ForbidsReturns EmptyPlane = ⊥

-- what a claim with good numbers asks: few generations and a shift within its limits; a live pattern and some generation, where anything is forbidden; where a
-- return is, that its own cells stand, by a vector that is forbidden, and a period that isn't too long; where an empty plane is, that the
-- plane is empty after some generations
pub record IsBounded (asks : Asks) : Type 0 where
  pub few : asks.generations ≤ most_generations
  pub right : IsShift asks.dx
  pub down : IsShift asks.dy
  pub live : asks.forbidden ≢ Nothing → IsTrue asks.live
  pub own : ForbidsReturns asks.forbidden → asks.expected ≡ Own
  pub returns : ForbidsReturns asks.forbidden → MayReturnBy asks.forbidden asks.dx asks.dy
  pub short : ForbidsReturns asks.forbidden → asks.generations ≤ longest_period
  pub none : asks.forbidden ≡ EmptyPlane → asks.expected ≡ NoCells
  pub some : asks.forbidden ≢ Nothing → 1 ≤ asks.generations

-- a yes of a claim that is true, or a no with a reason, and no refusal but out of work or memory
abbrev pub IsDecided : (List ℕ → ℕ) → Picture → Picture → Asks → Verdict → Type 0
IsDecided next cells other asks Yes = IsTrueClaim next cells other asks
IsDecided next cells other asks (No refutation) = IsReason next cells other asks refutation
IsDecided next cells other asks (Refused cause) = (cause ≡ Work) ⊎ (cause ≡ Memory)
