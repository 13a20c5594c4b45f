-- Planes that are dead beyond a way from the origin (our own).
use Rattle.std.specs.Prelude.{◌≡◌, ℕ, ℤ, pos, neg_ℤ, ◌⊎◌, ◌<ℤ◌, ◌≤ℤ◌}

-- beyond a way from 0, to the left or to the right
abbrev pub IsBeyond : ℕ → ℤ → Type 0
IsBeyond way x = (x <ℤ neg_ℤ (pos way)) ⊎ (pos way ≤ℤ x)

-- every cell beyond a way from the origin is 0
abbrev pub DiesBeyond : ℕ → (ℤ → ℤ → ℕ) → Type 0
DiesBeyond way p = (x y : ℤ) → IsBeyond way x ⊎ IsBeyond way y → p x y ≡ 0
