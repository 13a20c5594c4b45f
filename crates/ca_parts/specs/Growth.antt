-- Planes that settle into what is back within a number of generations, and parts that outgrow a plane (our own).
use Rattle.std.specs.Prelude.{ℕ, ◌+◌, ◌<◌, ◌≤◌, ℤ, List}
use Rattle.std.specs.List.{All}
use Rattle.ca_plane.specs.Prelude.{Picture, after, IsAfter, shifted, HasPopulation}
use Rattle.ca_parts.specs.Divisions.{IsDivision}

-- after at least one generation and at most `most`, the picture is there again, moved by some vector or none
abbrev pub ComesBackWithin : (List ℕ → ℕ) → ℕ → Picture → Type 0
ComesBackWithin next most p = (n : ℕ) × (1 ≤ n) × (n ≤ most) × (dx : ℤ) × (dy : ℤ) × IsAfter next p n (shifted p dx dy)

-- these cells have a division of which each part comes back within `most` generations
abbrev pub IsSettledWithin : (List ℕ → ℕ) → ℕ → (ℤ → ℤ → ℕ) → Type 0
IsSettledWithin next most cells = (parts : List Picture) × IsDivision next cells parts × All (ComesBackWithin next most) parts

-- more cells of the first plane are live than of the other
abbrev pub HasMoreCells : (f g : ℤ → ℤ → ℕ) → Type 0
HasMoreCells f g = (m : ℕ) × (n : ℕ) × HasPopulation f m × HasPopulation g n × (n < m)

-- in each of `most` generations from `start` on, p, going on alone, has more live cells than these
abbrev pub Outgrows : (List ℕ → ℕ) → (start most : ℕ) → Picture → (ℤ → ℤ → ℕ) → Type 0
Outgrows next start most p cells = (k : ℕ) → k < most → HasMoreCells (after next p (start + k)) cells
