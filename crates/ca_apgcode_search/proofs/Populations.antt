-- How many cells are live.
use Rattle.std.proofs.Common.{◌≡◌, ◌≢◌, ℕ, sym, ◌∙◌, ℤ}
use Rattle.ca_plane.specs.declared.point.Point.{Point}
use Rattle.ca_plane.specs.Prelude.{HasPopulation}
use Rattle.ca_plane.proofs.Elements.{all_weaker}

-- planes with the same cells have as many live ones
pub population_as : (p q : ℤ → ℤ → ℕ) (count : ℕ) → ((x y : ℤ) → p x y ≡ q x y) → HasPopulation p count → HasPopulation q count
population_as p q count same is = (
  is.0,
  record {
    once = is.1.once;
    live = all_weaker (λ (at : Point). p at.x at.y ≢ 0) (λ at. q at.x at.y ≢ 0) (λ at some none. some (same at.x at.y ∙ none)) is.0 is.1.live;
    all = λ x y some. is.1.all x y (λ none. some (sym (same x y) ∙ none));
  },
  is.2,
)
