-- Squares that show a plane.
use Rattle.std.proofs.Common.{◌≡◌, ℕ, ap₂, ◌∙◌}
use Rattle.std.specs.Prelude.{ℤ, pos, ◌+ℤ◌}
use Rattle.ca_plane.specs.Prelude.{ShowsPlane}

-- the same from a place by another name
pub looks_from : (side : ℕ) (cells : ℕ → ℕ → ℕ) (p : ℤ → ℤ → ℕ) (a b c d : ℤ) → a ≡ c → b ≡ d → ShowsPlane side cells p a b → ShowsPlane side cells p c d
looks_from side cells p a b c d e f h x y i j = h x y i j ∙ ap₂ (λ s t. p (s +ℤ pos x) (t +ℤ pos y)) e f
