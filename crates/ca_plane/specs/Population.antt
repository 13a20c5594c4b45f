-- How many cells of a plane are live, that is, aren't 0.
use Rattle.std.specs.Prelude.{◌≡◌, ◌≢◌, ℕ, ◌<◌, ◌≤◌, ℤ, List, length}
use Rattle.std.specs.List.{AllPairs, AllByRecursion, Contains}
use Rattle.ca_plane.specs.declared.point.Point.{Point}
use Rattle.ca_plane.specs.Limits.{most_cells}

-- these are the places of the live cells, each once
pub record AreLivePlaces (cells : ℤ → ℤ → ℕ) (places : List Point) : Type 0 where
  pub once : AllPairs (λ p q. p ≢ q) places
  pub live : AllByRecursion (λ p. cells p.x p.y ≢ 0) places
  pub all : (x y : ℤ) → cells x y ≢ 0 → Contains places (record { y = y; x = x })

-- this many cells are live
abbrev pub HasPopulation : (ℤ → ℤ → ℕ) → ℕ → Type 0
HasPopulation cells count = (places : List Point) × AreLivePlaces cells places × (count ≡ length places)

-- no more cells are live than are handled one by one
abbrev pub HasFewCells : (ℤ → ℤ → ℕ) → Type 0
HasFewCells cells = (count : ℕ) × HasPopulation cells count × (count ≤ most_cells)

-- more cells are live than are handled one by one
abbrev pub HasTooManyCells : (ℤ → ℤ → ℕ) → Type 0
HasTooManyCells cells = (count : ℕ) × HasPopulation cells count × (most_cells < count)
