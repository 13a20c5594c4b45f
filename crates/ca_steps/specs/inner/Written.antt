-- A picture that is written place by place, in the order in which a plane is read (our own).
use Rattle.std.specs.Prelude.{◌≡◌, ℕ, ℤ, List}
use Rattle.ca_plane.specs.Prelude.{Picture, cell, after}
use Rattle.ca_steps.specs.inner.Order.{IsBefore}

-- new shows the next generation of p up to (a, b), and nothing after
pub record IsWritten (next : List ℕ → ℕ) (p new : Picture) (a b : ℤ) : Type 0 where
  pub up_to : (x y : ℤ) → (IsBefore a b x y → ⊥) → cell new x y ≡ after next p 1 x y
  pub behind : (x y : ℤ) → IsBefore a b x y → cell new x y ≡ 0
