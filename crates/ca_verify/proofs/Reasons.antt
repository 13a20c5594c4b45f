-- What is reported of a claim by the cells that differ and by the first return.
use Rattle.std.proofs.Common.{◌≡◌, ◌≢◌, ℕ, List, [], Option, Some, None, MatchOption, refl, sym, ap, subst, ◌∙◌}
use Rattle.std.specs.Prelude.{ℤ, Result, IfOk, IsTrue}
use Rattle.ca_plane.specs.Prelude.{Picture, cell, shifted, IsLive, after, IsAfter}
use Rattle.ca_quad.specs.declared.{node.Node.Node, tree.Tree.Tree}
use Rattle.ca_quad.specs.Prelude.{IsSoundStore, Grows}
use Rattle.ca_quad.specs.Trees as trees
use Rattle.ca_answers.specs.declared.verdict.Refutation.{Refutation}
use Rattle.ca_answers.specs.declared.verdict.Refutation.TheVariants.{Empty, Differs, Earlier, Died}
use Rattle.ca_text.specs.declared.asks.{Asks.Asks, Forbidden.Forbidden}
use Rattle.ca_text.specs.declared.asks.Expected.TheVariants.{Own, NoCells}
use Rattle.ca_text.specs.declared.asks.Forbidden.TheVariants.{Nothing, InPlace, Anywhere, EmptyPlane}
use Rattle.ca_verify.specs.declared.decide.Case.{Case}
use Rattle.ca_text.specs.Prelude.{expected_cells, claimed_cells, ShowsNothingForbidden, MayReturnBy, IsTrueClaim}
use Rattle.ca_answers.specs.Prelude.{IsReason}
use Rattle.ca_verify.specs.inner.Decided.{ForbidsReturns}
use Rattle.ca_verify.specs.inner.Returns.{IsSparedBefore, IsFirstReturn, IsFirstDeath}
use Rattle.ca_pattern.specs.Prelude.{ShowsTree, HasLive}
use Rattle.ca_verify.specs.inner.Subjects.{IsCase, AreShown, IsDifference}
use Rattle.ca_pattern.proofs.LeaptTrees.{shows_stays, ok_as}

-- a picture of a live tree is live
pub live_shown : (nodes : List Node) (tree : Tree) (cells : Picture) → HasLive (trees.cell nodes tree) → ShowsTree nodes tree cells → IsLive cells
live_shown nodes tree cells live shows = (live.0, live.1, λ z. live.2 (sym (shows live.0 live.1) ∙ z))

-- an empty plane that is forbidden is something
pub death_is_some : (forbidden : Forbidden) → forbidden ≡ EmptyPlane → forbidden ≢ Nothing
death_is_some forbidden death nothing = let no : ⊥ = cc in no

-- what is forbidden is nothing, an empty plane, or a return
pub forbids_returns : (forbidden : Forbidden) → forbidden ≢ Nothing → forbidden ≢ EmptyPlane → ForbidsReturns forbidden
forbids_returns Nothing some other = absurd (some refl)
forbids_returns InPlace some other = tt
forbids_returns Anywhere some other = tt
forbids_returns EmptyPlane some other = absurd (other refl)

module _ (next : List ℕ → ℕ) (cells other : Picture) (asks : Asks) (live : IsTrue asks.live → IsLive cells) where
  -- cells that differ make a claim false
  pub difference_reason : (refutation : Refutation) → IsDifference (after next cells asks.generations) (cell (claimed_cells asks cells other)) asks.generations refutation → IsReason next cells other asks refutation
  difference_reason Empty told = absurd told
  difference_reason (Differs x y found expected generations) told = (live, told.0, ap (λ n. after next cells n x y) told.0 ∙ told.1, told.2, told.3)
  difference_reason (Earlier m dx dy) told = absurd told
  difference_reason (Died m) told = absurd told

  module _ (stands : IsAfter next cells asks.generations (claimed_cells asks cells other)) where
    -- where the claimed cells stand and nothing is forbidden, a claim is true
    pub true_at_once : asks.forbidden ≡ Nothing → IsTrueClaim next cells other asks
    true_at_once free = record {
      live = live;
      stands = stands;
      least = λ m some less. subst (λ b. ShowsNothingForbidden next cells b m) (sym free) tt;
    }

    -- else an earlier return tells
    pub earlier_tells : IsTrue asks.live → (refutation : Option Refutation) → MatchOption refutation (IsSparedBefore next cells asks.forbidden asks.generations) (IsFirstReturn next cells asks.forbidden asks.generations)
        → MatchOption refutation (IsTrueClaim next cells other asks) (IsReason next cells other asks)
    earlier_tells wants None told = record { live = live; stands = stands; least = told }
    earlier_tells wants (Some Empty) told = absurd told
    earlier_tells wants (Some (Differs x y found expected generations)) told = absurd told
    earlier_tells wants (Some (Earlier m dx dy)) told = (live wants, stands, told.0, told.1, told.2, told.3, told.4)
    earlier_tells wants (Some (Died m)) told = absurd told

    -- and an earlier death does
    pub death_tells : IsTrue asks.live → asks.forbidden ≡ EmptyPlane → (refutation : Option Refutation) → MatchOption refutation (IsSparedBefore next cells EmptyPlane asks.generations) (IsFirstDeath next cells asks.generations)
        → MatchOption refutation (IsTrueClaim next cells other asks) (IsReason next cells other asks)
    death_tells wants forbidden None told = record { live = live; stands = stands; least = subst (λ b. IsSparedBefore next cells b asks.generations) (sym forbidden) told }
    death_tells wants forbidden (Some Empty) told = absurd told
    death_tells wants forbidden (Some (Differs x y found expected generations)) told = absurd told
    death_tells wants forbidden (Some (Earlier m dx dy)) told = absurd told
    death_tells wants forbidden (Some (Died m)) told =
        (live wants, stands, told.0, told.1, forbidden, told.2, subst (λ b. IsSparedBefore next cells b m) (sym forbidden) told.3)

-- the claimed cells are the pattern's own, moved
pub own_stand : (next : List ℕ → ℕ) (cells other : Picture) (asks : Asks) → asks.expected ≡ Own → IsAfter next cells asks.generations (claimed_cells asks cells other) → IsAfter next cells asks.generations (shifted cells asks.dx asks.dy)
own_stand next cells other asks own stands = subst (λ w. IsAfter next cells asks.generations (shifted (expected_cells w cells other) asks.dx asks.dy)) own stands

-- where no cells are expected, the plane is empty
pub none_stand : (next : List ℕ → ℕ) (cells other : Picture) (asks : Asks) → asks.expected ≡ NoCells → IsAfter next cells asks.generations (claimed_cells asks cells other) → IsAfter next cells asks.generations []
none_stand next cells other asks none stands = subst (λ w. IsAfter next cells asks.generations (shifted (expected_cells w cells other) asks.dx asks.dy)) none stands

-- the claim's pattern is live where it must be
pub live_case : (nodes : List Node) (case : Case) (cells other : Picture) → AreShown nodes case.subject cells other → (IsTrue case.asks.live → HasLive (trees.cell nodes case.subject.pattern))
    → IsTrue case.asks.live → IsLive cells
live_case nodes case cells other shown live wants = live_shown nodes case.subject.pattern cells (live wants) shown.one

-- where the claimed cells stand and something is forbidden, what is found of earlier times tells of the claim
module _ {R E : Type 0} (next_of : R → List ℕ → ℕ) (rule later : R) (same : later ≡ rule) (s0 s1 : List Node) (sound : IsSoundStore s0) (grows : Grows s0 s1) (case : Case) (is : IsCase s0 case)
    (live : IsTrue case.asks.live → HasLive (trees.cell s0 case.subject.pattern)) (cells other : Picture) (shown : AreShown s0 case.subject cells other)
    (stands : IsAfter (next_of rule) cells case.asks.generations (claimed_cells case.asks cells other)) (found : Result (Option Refutation) E) where
  shows_later : ShowsTree s1 case.subject.pattern cells
  shows_later = shows_stays s0 s1 sound grows case.subject.pattern cells is.pattern.is_tree shown.one

  pub by_death : case.asks.forbidden ≡ EmptyPlane
      → ((p : Picture) → ShowsTree s1 case.subject.pattern p → IsAfter (next_of later) p case.asks.generations []
      → IfOk found (λ refutation. MatchOption refutation (IsSparedBefore (next_of later) p EmptyPlane case.asks.generations) (IsFirstDeath (next_of later) p case.asks.generations)))
      → IfOk found (λ refutation. MatchOption refutation (IsTrueClaim (next_of rule) cells other case.asks) (IsReason (next_of rule) cells other case.asks))
  by_death forbidden told =
      ok_as found _ _
      (death_tells (next_of rule) cells other case.asks (live_case s0 case cells other shown live) stands (is.bounded.live (death_is_some case.asks.forbidden forbidden)) forbidden)
      (subst (λ r. IsAfter (next_of r) cells case.asks.generations [] → IfOk found (λ refutation. MatchOption refutation (IsSparedBefore (next_of r) cells EmptyPlane case.asks.generations) (IsFirstDeath (next_of r) cells case.asks.generations)))
      same (told cells shows_later) (none_stand (next_of rule) cells other case.asks (is.bounded.none forbidden) stands))

  pub by_return : case.asks.forbidden ≢ Nothing → case.asks.forbidden ≢ EmptyPlane
      → ((p : Picture) → ShowsTree s1 case.subject.pattern p → (u v : ℤ) → MayReturnBy case.asks.forbidden u v → IsAfter (next_of later) p case.asks.generations (shifted p u v)
      → IfOk found (λ refutation. MatchOption refutation (IsSparedBefore (next_of later) p case.asks.forbidden case.asks.generations) (IsFirstReturn (next_of later) p case.asks.forbidden case.asks.generations)))
      → IfOk found (λ refutation. MatchOption refutation (IsTrueClaim (next_of rule) cells other case.asks) (IsReason (next_of rule) cells other case.asks))
  by_return some other_than told =
      let returns = forbids_returns case.asks.forbidden some other_than in
      let asks = case.asks in
      ok_as found _ _
      (earlier_tells (next_of rule) cells other asks (live_case s0 case cells other shown live) stands (is.bounded.live some))
      (subst (λ r. IsAfter (next_of r) cells asks.generations (shifted cells asks.dx asks.dy) → IfOk found (λ refutation. MatchOption refutation (IsSparedBefore (next_of r) cells asks.forbidden asks.generations) (IsFirstReturn (next_of r) cells asks.forbidden asks.generations)))
      same (told cells shows_later asks.dx asks.dy (is.bounded.returns returns)) (own_stand (next_of rule) cells other asks (is.bounded.own returns) stands))
