-- What a claim is judged on: squares of a leaper's store, and how the verdict follows from them.
use Rattle.std.specs.Prelude.{◌≡◌, ◌≢◌, ◌⊎◌, ℕ, ◌*◌, ◌≤◌, ◌<◌, ℤ, List, [], Option, MatchOption}
use Rattle.std.specs.Int.{◌∣◌}
use Rattle.ca_plane.specs.Prelude.{Picture, shifted, IsAfter, IsLiveAfter}
use Rattle.ca_quad.specs.declared.node.Node.{Node}
use Rattle.ca_quad.specs.Prelude.{IsSoundStore, cell}
use Rattle.ca_text.specs.declared.asks.{Asks.Asks, Forbidden.Forbidden}
use Rattle.ca_text.specs.declared.asks.Forbidden.TheVariants.{EmptyPlane}
use Rattle.ca_verify.specs.declared.decide.{ClaimTrees.ClaimTrees, Case.Case}
use Rattle.ca_answers.specs.declared.verdict.Refutation.{Refutation}
use Rattle.ca_answers.specs.declared.verdict.Refutation.TheVariants.{Differs}
use Rattle.ca_text.specs.Prelude.{MayReturnBy, ShowsNothingForbidden}
use Rattle.ca_verify.specs.inner.Decided.{ForbidsReturns, IsBounded}
use Rattle.ca_pattern.specs.Prelude.{IsPattern, ShowsTree, HasLive}

-- what a claim that asks this is judged on, as the squares of a sound store show it
pub record IsSubject (nodes : List Node) (asks : Asks) (subject : ClaimTrees) : Type 0 where
  pub sound : IsSoundStore nodes
  pub pattern : IsPattern nodes subject.pattern
  pub other : IsPattern nodes subject.other
  pub bounded : IsBounded asks

-- what is judged
abbrev pub IsCase : List Node → Case → Type 0
IsCase nodes case = IsSubject nodes case.asks case.subject

-- the pictures show the cells of a claim's trees
pub record AreShown (nodes : List Node) (subject : ClaimTrees) (cells other : Picture) : Type 0 where
  pub one : ShowsTree nodes subject.pattern cells
  pub two : ShowsTree nodes subject.other other

-- what is judged, of a live pattern that may not be back early
pub record ForbidsReturn (nodes : List Node) (case : Case) : Type 0 where
  pub subject : IsCase nodes case
  pub forbidden : ForbidsReturns case.asks.forbidden
  pub live : HasLive (cell nodes case.subject.pattern)

-- what is judged, of a live pattern that may not die early
pub record ForbidsDeath (nodes : List Node) (case : Case) : Type 0 where
  pub subject : IsCase nodes case
  pub forbidden : case.asks.forbidden ≡ EmptyPlane
  pub live : HasLive (cell nodes case.subject.pattern)

-- a cell that one plane has after n generations, and another hasn't
abbrev pub IsDifference : (ℤ → ℤ → ℕ) → (ℤ → ℤ → ℕ) → ℕ → Refutation → Type 0
IsDifference end expected n (Differs x y found claimed generations) = (generations ≡ n) × (end x y ≡ found) × (expected x y ≡ claimed) × (found ≢ claimed)
IsDifference end expected n refutation = ⊥

-- one time at which some cell is live, and a later one after which the plane is empty, where it is after the claim's generations
pub record AreLifeBounds (next : List ℕ → ℕ) (nodes : List Node) (case : Case) (low high : ℕ) : Type 0 where
  pub order : low < high
  pub within : high ≤ case.asks.generations
  pub holds : (cells : Picture) → ShowsTree nodes case.subject.pattern cells → IsAfter next cells case.asks.generations []
      → IsLiveAfter next cells low × IsAfter next cells high []

-- after n generations the pattern is there again, by this vector, which is forbidden
abbrev pub IsBackBy : (List ℕ → ℕ) → Picture → Forbidden → ℕ → ℤ × ℤ → Type 0
IsBackBy next cells forbidden n v = MayReturnBy forbidden v.0 v.1 × IsAfter next cells n (shifted cells v.0 v.1)

-- how far the first return is found: the pattern is back at this time, which is the claim's or, by this vector, an earlier one; and where
-- k times m generations make the time, nothing that is forbidden is shown at m, or k divides what is left of the time to be tried
pub record IsNarrowed (next : List ℕ → ℕ) (nodes : List Node) (case : Case) (time left : ℕ) (found : Option (ℤ × ℤ)) : Type 0 where
  pub some : 1 ≤ time
  pub within : time ≤ case.asks.generations
  pub part : left ∣ time
  pub back : (cells : Picture) → ShowsTree nodes case.subject.pattern cells
      → MatchOption found (time ≡ case.asks.generations) (λ v. (time < case.asks.generations) × IsBackBy next cells case.asks.forbidden time v)
  pub before : (cells : Picture) → ShowsTree nodes case.subject.pattern cells → (k m : ℕ) → k * m ≡ time
      → ShowsNothingForbidden next cells case.asks.forbidden m ⊎ (k ∣ left)
