-- What holds of cells holds of other cells that are the same at every x and y.
use Rattle.std.proofs.Common.{◌≡◌, ◌≢◌, ℕ, ◌≤◌, ◌<◌, List, [], ◌∷◌, sym, subst, ◌∙◌}
use Rattle.std.specs.Prelude.{ℤ}
use Rattle.std.specs.List.{AllByRecursion}
use Rattle.ca_plane.specs.declared.point.Point.{Point}
use Rattle.ca_plane.specs.Prelude.{AreLivePlaces, HasPopulation, HasFewCells, HasTooManyCells}
use Rattle.ca_rule.specs.Prelude.{RuleValue, states_of}
use Rattle.ca_pattern.specs.Prelude.{HasLargeState, HasSmallStates}

module _ (f g : ℤ → ℤ → ℕ) (same : (x y : ℤ) → f x y ≡ g x y) where
  -- their states are small, or one is large
  pub small_shown : (rule : RuleValue) → HasSmallStates rule f → HasSmallStates rule g
  small_shown rule small = λ x y. subst (λ s. s < states_of rule) (same x y) (small x y)

  pub large_shown : (rule : RuleValue) → HasLargeState rule f → HasLargeState rule g
  large_shown rule large = (large.0, large.1, subst (λ s. states_of rule ≤ s) (same large.0 large.1) large.2)

  -- some places are those of the live cells
  live_shown : (places : List Point) → AllByRecursion (λ p. f p.x p.y ≢ 0) places → AllByRecursion (λ p. g p.x p.y ≢ 0) places
  live_shown [] live = tt
  live_shown (p ∷ ps) live = ((λ e. live.0 (same p.x p.y ∙ e)), live_shown ps live.1)

  places_shown : (places : List Point) → AreLivePlaces f places → AreLivePlaces g places
  places_shown places are = record { once = are.once; live = live_shown places are.live; all = λ x y live. are.all x y (λ e. live (sym (same x y) ∙ e)) }

  -- `count` of them are live
  pub population_shown : (count : ℕ) → HasPopulation f count → HasPopulation g count
  population_shown count has = (has.0, places_shown has.0 has.1, has.2)

  -- which are few, or too many
  pub few_shown : HasFewCells f → HasFewCells g
  few_shown few = (few.0, population_shown few.0 few.1, few.2)

  pub many_shown : HasTooManyCells f → HasTooManyCells g
  many_shown many = (many.0, population_shown many.0 many.1, many.2)
