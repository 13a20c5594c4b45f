-- Parts of a representation that are put after a text.
use Rattle.std.specs.Prelude.{ℕ, List}
use Rattle.std.specs.List.{flat_map}
use Rattle.ca_plane.specs.Prelude.{Puts}
use Rattle.ca_apgcode.specs.Representation.{Step, IsStrip, step_text}

-- new is old with the text of the five rows from this one down at its end
pub record PutsStrip (cells : ℕ → ℕ → ℕ) (y : ℕ) (old new : List ℕ) : Type 0 where
  pub steps : List Step
  pub is_strip : IsStrip cells y steps
  pub puts : Puts old new (flat_map step_text steps)
