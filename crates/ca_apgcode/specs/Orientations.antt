-- The eight turns and reflections of a plane.
use Rattle.std.specs.Prelude.{◌≡◌, ℕ, ◌<◌, ℤ, neg_ℤ, ◌-ℤ◌}
use Rattle.ca_apgcode.specs.declared.orientation.Orientation.{Orientation}
use Rattle.ca_apgcode.specs.declared.orientation.Orientation.TheVariants.{Upright, QuarterTurn, HalfTurn, ThreeQuarterTurn, EastWest, NorthSouth, Diagonal, Antidiagonal}

-- the cells of a plane that is turned or reflected about the cell (0, 0)
abbrev pub turned : Orientation → (ℤ → ℤ → ℕ) → ℤ → ℤ → ℕ
turned Upright cells x y = cells x y
turned QuarterTurn cells x y = cells y (neg_ℤ x)
turned HalfTurn cells x y = cells (neg_ℤ x) (neg_ℤ y)
turned ThreeQuarterTurn cells x y = cells (neg_ℤ y) x
turned EastWest cells x y = cells (neg_ℤ x) y
turned NorthSouth cells x y = cells x (neg_ℤ y)
turned Diagonal cells x y = cells y x
turned Antidiagonal cells x y = cells (neg_ℤ y) (neg_ℤ x)

-- the second plane is a copy of the first one: turned or reflected, and then moved by (dx, dy)
pub record IsCopy (cells copy : ℤ → ℤ → ℕ) : Type 0 where
  pub orientation : Orientation
  pub dx : ℤ
  pub dy : ℤ
  pub same : (x y : ℤ) → copy x y ≡ turned orientation cells (x -ℤ dx) (y -ℤ dy)

-- each of the first `count` copies is a copy of one of the first `count` phases
abbrev pub AreAmong : (phases copies : ℕ → ℤ → ℤ → ℕ) → (count : ℕ) → Type 0
AreAmong phases copies count = (n : ℕ) → n < count → (m : ℕ) × (m < count) × IsCopy (phases m) (copies n)
