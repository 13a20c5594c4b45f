-- Texts that are put after others.
use Rattle.std.specs.Prelude.{◌≡◌, ℕ, List, ◌++◌}

-- new is old with the text at its end
pub record Puts (old new text : List ℕ) : Type 0 where
  pub whole : new ≡ old ++ text
