-- What is found of the plane of a file's pattern, and what finding it may need.
use Rattle.std.proofs.Common.{◌≡◌, ℕ, ◌+◌, List, Option, None, Some, inl, inr, refl, sym, ◌∙◌, arith}
use Rattle.std.specs.Prelude.{ℤ, ◌-ℤ◌}
use Rattle.ca_plane.specs.Prelude.{Picture, IsLive, shifted, after, cells_after}
use Rattle.ca_plane.specs.Plane as plane
use Rattle.ca_plane.proofs.Shifts.{cell-shifted}
use Rattle.ca_quad.specs.Trees as trees
use Rattle.ca_plane.proofs.Numbers.{below_or_not}
use Rattle.ca_rule.specs.Prelude.{TableRule}
use Rattle.ca_plane.proofs.After.{after_same}
use Rattle.ca_text.specs.declared.{asks.Asks.Asks, asks.Expected.Expected, asks.Forbidden.Forbidden, kind.Kind.Kind}
use Rattle.ca_text.specs.declared.asks.Expected.TheVariants.{Own, Other, NoCells}
use Rattle.ca_text.specs.declared.asks.Forbidden.TheVariants.{Nothing, InPlace, Anywhere, EmptyPlane}
use Rattle.ca_answers.specs.declared.{identity.Identity.Identity, scope.Scope.Scope, scope.Look.Look}
use Rattle.ca_answers.specs.declared.identity.Identity.TheVariants.{Empty, Claim, Unknown}
use Rattle.ca_pattern.specs.declared.pattern.{Pattern.Pattern, StoredTree.StoredTree}
use Rattle.ca_answers.specs.Prelude.{IsTrueWithin, IsIdentity, IsLookAt, MayNeedWorkAfter}
use Rattle.ca_text.specs.Prelude.{asks_of, expected_cells, IsTrueClaim, ShowsNothingForbidden}
use Rattle.ca_pattern.specs.Prelude.{IsPatternAfter, MayWantMemory, IsTreeOf}
use Rattle.ca_identify.specs.TreeLooks.{TakesRunAndSearch}
use Rattle.ca_pattern.proofs.CellsNearMiddle.{trimmed_low}
use Rattle.ca_pattern.proofs.PatternsRead.{reads_may_want}
use Rattle.ca_identify.proofs.Stages.{run_more}

-- where all `work` units of work are used up, a run from the tree of a pattern, and steps, may need as many
pub file_needs : (next : List ℕ → ℕ) (cells : Picture) (stored : StoredTree) → IsTreeOf (plane.cell cells) stored → (old new work n limit : ℕ) → old ≡ 0 → new ≡ work
    → TakesRunAndSearch old new stored.tree.level n (cells_after next (trees.cell stored.store stored.tree)) limit → MayNeedWorkAfter work n (after next cells) limit
file_needs next cells stored tree old new work n limit none all takes start digits level first held short some holds =
    let shown = trees.cell stored.store stored.tree in
    let same : (m : ℕ) (x y : ℤ) → cells_after next shown m x y ≡ after next cells m x y = λ m x y. after_same next shown (plane.cell cells) m tree.shows x y in
    let high = trimmed_low stored.store stored.tree (plane.cell cells) start first tree.trimmed tree.shows held in
    let most = takes digits level short some (λ m less x y live. holds m less x y (λ dead. live (same (n + m) x y ∙ dead))) in
    let more = run_more n stored.tree.level start digits (omega (arith, high)) in
    omega (arith, none, all, most, more)

-- memory may run out for a file that is opened
pub opened_may_want : (bytes : List ℕ) (tables : List TableRule) (pattern : Pattern) → IsPatternAfter bytes tables 0 pattern → MayWantMemory bytes
opened_may_want bytes tables pattern is = reads_may_want bytes is.begins.holds.holds.readable

-- ---- pictures with the same cells

-- what is true of one picture is true of another one with the same cells
module _ (next : List ℕ → ℕ) (p q : Picture) (same : (x y : ℤ) → plane.cell p x y ≡ plane.cell q x y) where
  same_later : (n : ℕ) (x y : ℤ) → after next p n x y ≡ after next q n x y
  same_later n x y = after_same next (plane.cell p) (plane.cell q) n same x y

  pub same_live : IsLive p → IsLive q
  same_live live = (live.0, live.1, λ none. live.2 (same live.0 live.1 ∙ none))

  same_shifted : (dx dy x y : ℤ) → plane.cell (shifted p dx dy) x y ≡ plane.cell (shifted q dx dy) x y
  same_shifted dx dy x y = cell-shifted p dx dy x y ∙ same (x -ℤ dx) (y -ℤ dy) ∙ sym (cell-shifted q dx dy x y)

  same_claimed : (expected : Expected) (dx dy x y : ℤ) → plane.cell (shifted (expected_cells expected p p) dx dy) x y ≡ plane.cell (shifted (expected_cells expected q q) dx dy) x y
  same_claimed Own dx dy x y = same_shifted dx dy x y
  same_claimed Other dx dy x y = same_shifted dx dy x y
  same_claimed NoCells dx dy x y = refl

  same_forbidden : (forbidden : Forbidden) (m : ℕ) → ShowsNothingForbidden next p forbidden m → ShowsNothingForbidden next q forbidden m
  same_forbidden Nothing m none = tt
  same_forbidden InPlace m changed = (changed.0, changed.1, λ e. changed.2 (same_later m changed.0 changed.1 ∙ e ∙ sym (same changed.0 changed.1)))
  same_forbidden Anywhere m nowhere = λ dx dy is. nowhere dx dy (λ x y. same_later m x y ∙ is x y ∙ sym (same_shifted dx dy x y))
  same_forbidden EmptyPlane m live = (live.0, live.1, λ none. live.2 (same_later m live.0 live.1 ∙ none))

  pub same_claim : (asks : Asks) → IsTrueClaim next p p asks → IsTrueClaim next q q asks
  same_claim asks true = record {
    live = λ must. same_live (true.live must);
    stands = λ x y. sym (same_later asks.generations x y) ∙ true.stands x y ∙ same_claimed asks.expected asks.dx asks.dy x y;
    least = λ m some less. same_forbidden asks.forbidden m (true.least m some less);
  }

  same_within : (limit : ℕ) (kind : Kind) → IsTrueWithin next p limit kind → IsTrueWithin next q limit kind
  same_within limit kind true = record { numbers = true.numbers; within = true.within; holds = same_claim (asks_of kind) true.holds }

module _ (next : List ℕ → ℕ) (p q : Picture) (same : (x y : ℤ) → plane.cell p x y ≡ plane.cell q x y) (limit : ℕ) where
  other_way : (x y : ℤ) → plane.cell q x y ≡ plane.cell p x y
  other_way x y = sym (same x y)

  pub same_identity : (identity : Identity) → IsIdentity next p limit identity → IsIdentity next q limit identity
  same_identity Empty dead = λ live. dead (same_live next q p other_way live)
  same_identity (Claim kind) (own, true) = (own, same_within next p q same limit kind true)
  same_identity (Unknown growth) (live, none, later, stands, grown) = (
    same_live next p q same live,
    (λ kind one some within true. none kind one some within (same_claim next q p other_way (asks_of kind) true)),
    later,
    (λ x y. sym (same_later next p q same limit x y) ∙ stands x y),
    grown,
  )

-- ---- looks

-- a look that has no end to its patience goes as far as its limit
pub whole_limit : (bytes : List ℕ) (tables : List TableRule) (n : ℕ) (scope : Scope) (look : Look) → scope.patience ≡ None → IsLookAt bytes tables n scope look → look.limit ≡ scope.limit
whole_limit bytes tables n scope look none (cells, rule, holds, (later, stands, is)) =
    let most = is.most in
    elim (below_or_not look.limit scope.limit) [
      | inl less ↦ let early = is.early less in absurd (some_or_none scope.patience early.2 early.3 none)
      | inr from ↦ omega (arith, most, from)
    ]
  where
    some_or_none : (patience : Option ℕ) (units : ℕ) → patience ≡ Some units → patience ≡ None → ⊥
    some_or_none patience units some none = cc
