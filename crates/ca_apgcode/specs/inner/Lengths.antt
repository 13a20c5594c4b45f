-- Lengths of representations.
use Rattle.std.specs.Prelude.{◌≡◌, ℕ, ◌≤◌, List, [], length}
use Rattle.ca_apgcode.specs.inner.Puts.{PutsStrip}

-- the number is the length of the text of the five rows from this one down, at most 120
pub record IsStripLength (cells : ℕ → ℕ → ℕ) (y n : ℕ) : Type 0 where
  pub text : List ℕ
  pub is_text : PutsStrip cells y [] text
  pub is_length : n ≡ length text
  pub most : n ≤ 120
